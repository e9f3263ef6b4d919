-- How the counts of a grid change where one of its heights does.
use Rattle.std.proofs.Common.{◌≡◌, ℕ, zero, suc, ◌+◌, ◌-◌, ◌*◌, ◌/◌, ◌%◌, ◌<◌, ◌≤◌, min, Bool, true, false, cond, ◌&&◌, ltb, List, map, take, drop, length, get_or, set, Some, None, Option, sym, refl, ap, ◌∙◌, mul-le-mul, arith}
use Rattle.std.specs.List.{range_with_len, flat_map, slice_get}
use Rattle.std.proofs.lemmas.Nat.{mul-add-lt, div-mul-add, mod-mul-add}
use Rattle.std.proofs.lemmas.List.FromFn.{length-map-range_with_len}
use Rattle.std.proofs.lemmas.List.{length-set, get_or-map, get_or-set_same, drop_more}
use Rattle.std.proofs.lemmas.Option.{slice_get-get_or, gets}
use Rattle.std.proofs.lemmas.Grind.{common_steps}
use Rattle.std.proofs.lemmas.Bool.{lt-ltb, and_right}
use Rattle.heights.specs.Tally.{tally}
use Rattle.heights.proofs.Tallying.{tally_le_length}
use Rattle.grid.specs.declared.Place.{Place}
use Rattle.grid.specs.declared.CellRecord.{CellRecord}
use Rattle.grid.specs.Terrain.{Terrain, cells, height_at}
use Rattle.grid.specs.Window.{near, reaches, is_not_higher, count_at}
use Rattle.sweep.proofs.Lists.{length_joined_le}
use Rattle.sweep.proofs.Totals.{total, total_ext, total_none, total_part, total_shift, tally_joined}
use Rattle.sweep.proofs.Windows.{near_yes, near_low, near_high}
use Rattle.alteration.specs.Mending.{not_above}
use Rattle.alteration.proofs.Sums.{grid_change, tally_range, tally_map_range}

-- two cells of one index are one cell
pub same_cell : (w a b x y : ℕ) → a < w → x < w → b * w + a ≡ y * w + x → (a ≡ x) × (b ≡ y)
same_cell w a b x y p q e = (
  sym (mod-mul-add b w a p) ∙ (ap (λ n. n % w) e ∙ mod-mul-add y w x q),
  sym (div-mul-add b w a p) ∙ (ap (λ n. n / w) e ∙ div-mul-add y w x q),
)

-- the element that was replaced
pub nth_set_same : {X : Type 0} (xs : List X) (i : ℕ) (v : X) → i < length xs → slice_get (set xs i v) i ≡ Some v
nth_set_same xs i v lt = slice_get-get_or (set xs i v) i v (omega (arith, lt, length-set xs i v)) ∙ ap Some (get_or-set_same xs i v v lt)

-- the elements that were not replaced
pub nth_set_other : {X : Type 0} (xs : List X) (i j : ℕ) (v : X) → (j ≡ i → ⊥) → slice_get (set xs i v) j ≡ slice_get xs j
nth_set_other xs i j v ne = grind (arith, common_steps, gets)

-- the test of the record at an index
pub test_read : {X : Type 0} (le : X → X → Bool) (records : List (CellRecord X)) (h : X) (i : ℕ) (d : CellRecord X) (b : Bool) → i < length records → b ≡ le (get_or records i d).height h → not_above le records h i ≡ b
test_read le records h i d b lt e = ap (λ k. le k h) (get_or-map (λ c. c.height) records i d h lt) ∙ sym e

-- records that are not higher than a height, counted by their indices
pub tally_part : {X : Type 0} (le : X → X → Bool) (records : List (CellRecord X)) (h : X) (a n : ℕ) → a + n ≤ length records
    → tally (λ c. le c.height h) (take n (drop a records)) ≡ tally (not_above le records h) (range_with_len a n)
tally_part le records h a zero fits = refl
tally_part {X} le records h a (suc n) fits =
    let d : CellRecord X = record { height = h; count = 0 } in
    let test : CellRecord X → Bool = λ c. le c.height h in
    let bit : Bool → ℕ = λ b. cond b 1 0 in
    ap (λ cells. tally test (take (suc n) cells)) (drop_more records a d (omega arith))
    ∙ omega (arith, ap bit (test_read le records h a d (test (get_or records a d)) (omega arith) refl), tally_part le records h (a + 1) n (omega arith))

-- what a cell adds to the count of another: 1 or 0
abbrev pub cell_count : {X : Type 0} → (X → X → Bool) → Terrain X → ℕ → Place → ℕ → ℕ → ℕ
cell_count le t r q a b = cond (reaches r q (record { x = a; y = b }) && is_not_higher le (height_at t (record { x = a; y = b })) (height_at t q)) 1 0

-- what a height adds to the count of another, in reach or not: 1 or 0
abbrev bit_of : {X : Type 0} → (X → X → Bool) → Bool → Option X → Option X → ℕ
bit_of le reached o u = cond (reached && is_not_higher le o u) 1 0

-- equal heights add the same
same_bit : {X : Type 0} (le : X → X → Bool) (reached : Bool) {o u o' u' : Option X} → o ≡ o' → u ≡ u' → bit_of le reached o u ≡ bit_of le reached o' u'
same_bit le reached {u = u} {o' = o'} e f = ap (λ k. bit_of le reached k u) e ∙ ap (λ k. bit_of le reached o' k) f

-- a count, row by row
pub count_total : {X : Type 0} (le : X → X → Bool) (t : Terrain X) (r : ℕ) (q : Place) → count_at le t r q ≡ total (λ b. total (λ a. cell_count le t r q a b) 0 t.width) 0 t.rows
count_total le t r q =
    let test : Place → Bool = λ p. reaches r q p && is_not_higher le (height_at t p) (height_at t q) in
    let row : ℕ → List Place = λ b. map (λ a. record { x = a; y = b }) (range_with_len 0 t.width) in
    tally_joined test row 0 t.rows
    ∙ total_ext (λ b. tally test (row b)) (λ b. total (λ a. cell_count le t r q a b) 0 t.width) 0 t.rows (λ b _ _. tally_map_range test (λ a. record { x = a; y = b }) 0 t.width)

-- a count is at most the number of cells
pub count_le : {X : Type 0} (le : X → X → Bool) (t : Terrain X) (r : ℕ) (q : Place) → t.width ≤ 1024 → t.rows ≤ 1024 → count_at le t r q ≤ 1048576
count_le le t r q wide deep =
    let test : Place → Bool = λ p. reaches r q p && is_not_higher le (height_at t p) (height_at t q) in
    let row : ℕ → List Place = λ b. map (λ a. record { x = a; y = b }) (range_with_len 0 t.width) in
    let few = length_joined_le row t.width (λ b. omega (arith, length-map-range_with_len {X = Place} (λ a. record { x = a; y = b }) 0 t.width)) 0 t.rows in
    let most : t.rows * t.width ≤ 1024 * 1024 = mul-le-mul deep wide in
    omega (arith, tally_le_length test (cells t.width t.rows), few, most)

-- the grid with another height at an index
abbrev pub changed : {X : Type 0} → Terrain X → ℕ → X → Terrain X
changed t i v = record { width = t.width; rows = t.rows; heights = set t.heights i v }

module _ {X : Type 0} (le : X → X → Bool) (t : Terrain X) (r x y : ℕ) (old new : X) where
  abbrev here : Place
  here = record { x = x; y = y }

  abbrev after : Terrain X
  after = changed t (y * t.width + x) new

  -- the height that was replaced
  pub own_height : x < t.width → y * t.width + x < length t.heights → height_at after here ≡ Some new
  own_height inx lt =
      ap (λ b. cond b (slice_get (set t.heights (y * t.width + x) new) (y * t.width + x)) None) (lt-ltb x t.width inx)
      ∙ nth_set_same t.heights (y * t.width + x) new lt

  -- the heights that were not replaced
  pub other_height : (a b : ℕ) → x < t.width → a < t.width → ((a ≡ x) × (b ≡ y) → ⊥) → height_at after (record { x = a; y = b }) ≡ height_at t (record { x = a; y = b })
  other_height a b inx ina ne =
      ap (λ o. cond (ltb a t.width) o None) (nth_set_other t.heights (y * t.width + x) (b * t.width + a) new (λ e. ne (same_cell t.width a b x y ina inx e)))

  -- the count of another cell loses what the old height added, and gains what the new height adds
  pub count_changed : (x' y' : ℕ) (h : X) → x < t.width → y < t.rows → y * t.width + x < length t.heights → height_at t here ≡ Some old
      → x' < t.width → ((x' ≡ x) × (y' ≡ y) → ⊥) → height_at t (record { x = x'; y = y' }) ≡ Some h
      → count_at le after r (record { x = x'; y = y' }) + cond (reaches r (record { x = x'; y = y' }) here && le old h) 1 0
      ≡ count_at le t r (record { x = x'; y = y' }) + cond (reaches r (record { x = x'; y = y' }) here && le new h) 1 0
  count_changed x' y' h inx iny lt was inx' ne own =
      let q : Place = record { x = x'; y = y' } in
      let kept : height_at after q ≡ height_at t q = other_height x' y' inx inx' ne in
      let f : ℕ → ℕ → ℕ = cell_count le t r q in
      let g : ℕ → ℕ → ℕ = cell_count le after r q in
      let same : (a b : ℕ) → a < t.width → ((a ≡ x) × (b ≡ y) → ⊥) → f a b ≡ g a b =
      (λ a b ina apart. same_bit le (reaches r q (record { x = a; y = b })) (sym (other_height a b inx ina apart)) (sym kept)) in
      let loss : f x y ≡ cond (reaches r q here && le old h) 1 0 = same_bit le (reaches r q here) was own in
      let gain : g x y ≡ cond (reaches r q here && le new h) 1 0 = same_bit le (reaches r q here) (own_height inx lt) (kept ∙ own) in
      omega (arith, count_total le t r q, count_total le after r q, grid_change f g t.width t.rows x y inx iny same, loss, gain)

  -- the count of another cell in reach
  pub count_near : (x' y' : ℕ) (h : X) → x < t.width → y < t.rows → y * t.width + x < length t.heights → height_at t here ≡ Some old
      → x' < t.width → ((x' ≡ x) × (y' ≡ y) → ⊥) → height_at t (record { x = x'; y = y' }) ≡ Some h → reaches r (record { x = x'; y = y' }) here ≡ true
      → count_at le after r (record { x = x'; y = y' }) + cond (le old h) 1 0 ≡ count_at le t r (record { x = x'; y = y' }) + cond (le new h) 1 0
  count_near x' y' h inx iny lt was inx' ne own e =
      let bit : Bool → Bool → ℕ = λ k b. cond (b && k) 1 0 in
      omega (arith, count_changed x' y' h inx iny lt was inx' ne own, ap (bit (le old h)) e, ap (bit (le new h)) e)

  -- the count of a cell out of reach
  pub count_far : (x' y' : ℕ) (h : X) → x < t.width → y < t.rows → y * t.width + x < length t.heights → height_at t here ≡ Some old
      → x' < t.width → ((x' ≡ x) × (y' ≡ y) → ⊥) → height_at t (record { x = x'; y = y' }) ≡ Some h → reaches r (record { x = x'; y = y' }) here ≡ false
      → count_at le after r (record { x = x'; y = y' }) ≡ count_at le t r (record { x = x'; y = y' })
  count_far x' y' h inx iny lt was inx' ne own e =
      let bit : Bool → Bool → ℕ = λ k b. cond (b && k) 1 0 in
      omega (arith, count_changed x' y' h inx iny lt was inx' ne own, ap (bit (le old h)) e, ap (bit (le new h)) e)

-- the count of a cell is that of the cells of the part in its reach that are not higher
module _ {X : Type 0} (le : X → X → Bool) (t : Terrain X) (r x y : ℕ) (h : X) where
  abbrev at : Place
  at = record { x = x; y = y }

  abbrev test : ℕ → Bool
  test i = le (get_or t.heights i h) h

  abbrev bit : ℕ → ℕ
  bit i = cond (test i) 1 0

  in_window : (a b : ℕ) → height_at t at ≡ Some h → length t.heights ≡ t.width * t.rows → a < t.width → b < t.rows → near r x a ≡ true → near r y b ≡ true → cell_count le t r at a b ≡ bit (b * t.width + a)
  in_window a b own whole ina inb nx ny =
      let lt : b * t.width + a < length t.heights = omega (arith, whole, mul-add-lt b t.width a t.rows inb ina) in
      let there : height_at t (record { x = a; y = b }) ≡ Some (get_or t.heights (b * t.width + a) h) =
      ap (λ c. cond c (slice_get t.heights (b * t.width + a)) None) (lt-ltb a t.width ina) ∙ slice_get-get_or t.heights (b * t.width + a) h lt in
      ap (λ c. cond ((c && near r y b) && is_not_higher le (height_at t (record { x = a; y = b })) (height_at t at)) 1 0) nx
      ∙ (ap (λ c. cond (c && is_not_higher le (height_at t (record { x = a; y = b })) (height_at t at)) 1 0) ny
      ∙ (ap (λ o. cond (is_not_higher le o (height_at t at)) 1 0) there
      ∙ ap (λ o. cond (is_not_higher le (Some (get_or t.heights (b * t.width + a) h)) o) 1 0) own))

  out_of_columns : (a b : ℕ) → near r x a ≡ false → cell_count le t r at a b ≡ 0
  out_of_columns a b z = ap (λ c. cond ((c && near r y b) && is_not_higher le (height_at t (record { x = a; y = b })) (height_at t at)) 1 0) z

  out_of_rows : (a b : ℕ) → near r y b ≡ false → cell_count le t r at a b ≡ 0
  out_of_rows a b z = ap (λ c. cond (c && is_not_higher le (height_at t (record { x = a; y = b })) (height_at t at)) 1 0) (and_right (near r x a) (near r y b) z)

  pub count_anew : x < t.width → y < t.rows → length t.heights ≡ t.width * t.rows → height_at t at ≡ Some h
      → count_at le t r at ≡ tally test (flat_map (λ b. range_with_len (b * t.width + (x - r)) (min t.width (x + r + 1) - (x - r))) (range_with_len (y - r) (min t.rows (y + r + 1) - (y - r))))
  count_anew inx iny whole own =
      let w = t.width in
      let left = x - r in
      let right = min w (x + r + 1) in
      let top = y - r in
      let bottom = min t.rows (y + r + 1) in
      let F : ℕ → ℕ = λ b. total (λ a. cell_count le t r at a b) 0 w in
      let G : ℕ → ℕ = λ b. tally test (range_with_len (b * w + left) (right - left)) in
      let rows = total_part F t.rows top bottom (omega arith) (omega arith)
      (λ b low. total_none (λ a. cell_count le t r at a b) 0 w (λ a _ _. out_of_rows a b (near_low r y b low)))
      (λ b high under. total_none (λ a. cell_count le t r at a b) 0 w (λ a _ _. out_of_rows a b (near_high r y b (omega arith)))) in
      let row : (b : ℕ) → top ≤ b → b < bottom → F b ≡ G b =
      (λ b p q.
      total_part (λ a. cell_count le t r at a b) w left right (omega arith) (omega arith)
      (λ a low. out_of_columns a b (near_low r x a low))
      (λ a high under. out_of_columns a b (near_high r x a (omega arith)))
      ∙ (total_ext (λ a. cell_count le t r at a b) (λ a. bit (b * w + a)) left (right - left)
      (λ a u v. in_window a b own whole (omega arith) (omega arith) (near_yes r x a u (omega arith)) (near_yes r y b p (omega arith)))
      ∙ (total_shift bit (b * w) left (right - left) ∙ sym (tally_range test (b * w + left) (right - left))))) in
      count_total le t r at
      ∙ (rows
      ∙ (total_ext F G top (bottom - top) (λ b u v. row b u (omega arith))
      ∙ sym (tally_joined test (λ b. range_with_len (b * w + left) (right - left)) top (bottom - top))))
