-- The columns of a band around a cell hold the heights of its window.
use Rattle.std.proofs.Common.{◌≡◌, ℕ, ◌+◌, ◌-◌, ◌*◌, ◌%◌, ◌<◌, ◌≤◌, min, Bool, true, false, cond, ◌&&◌, eqb, List, [], ◌∷◌, map, length, Some, None, Option, sym, refl, ap, ◌∙◌, add-zero, mul-le-mul, arith}
use Rattle.std.specs.List.{range_with_len, flat_map}
use Rattle.std.specs.Option.{option_to_list}
use Rattle.std.proofs.lemmas.Bool.Decides.{nat_tests}
use Rattle.counters.specs.Held.{tally, Same, up_to}
use Rattle.counters.proofs.Tallies.{tally_append}
use Rattle.grid.specs.declared.Place.{Place}
use Rattle.grid.specs.Terrain.{Terrain, height_at, cells}
use Rattle.grid.specs.Window.{near, reaches, is_not_higher, count_at, window_heights}
use Rattle.sweep.specs.Walk.{band_top, band_rows, walked_place, column_heights, columns_heights}
use Rattle.sweep.specs.Sweeping.{places_needed}
use Rattle.sweep.proofs.Lists.{length_joined_le}
use Rattle.sweep.proofs.Totals.{total, total_ext, total_none, total_part, total_shift, total_reverse, total_swap, tally_joined, tally_joined_map, tally_joined_joined}

-- a number in reach
pub near_yes : (r x a : ℕ) → x - r ≤ a → a < x + r + 1 → near r x a ≡ true
near_yes r x a p q = grind (arith, nat_tests)

-- a number below the reach
pub near_low : (r x a : ℕ) → a < x - r → near r x a ≡ false
near_low r x a p = grind (arith, nat_tests)

-- a number above the reach
pub near_high : (r x a : ℕ) → x + r + 1 ≤ a → near r x a ≡ false
near_high r x a p = grind (arith, nat_tests)

-- the sum down a column is that up it
pub either_way : (f : ℕ → ℕ) (top n : ℕ) (b : Bool) → total (λ j. f (cond b (top + j) (top + (n - 1 - j)))) 0 n ≡ total f top n
either_way f top n true = total_shift f top 0 n ∙ rw add-zero
either_way f top n false = total_reverse f top n

tally_cond : {X : Type 0} (p : X → Bool) (b : Bool) (xs : List X) → tally p (cond b xs []) ≡ cond b (tally p xs) 0
tally_cond p true xs = refl
tally_cond p false xs = refl

-- what a test counts at a cell: 1 or 0
abbrev pub cell_tally : {X : Type 0} → (X → Bool) → Terrain X → ℕ → ℕ → ℕ
cell_tally p t a b = tally p (option_to_list (height_at t (record { x = a; y = b })))

module _ {X : Type 0} (p : X → Bool) (t : Terrain X) (r x y : ℕ) where
  -- the way that a column is walked does not matter
  pub tally_column : (a : ℕ) → tally p (column_heights t r y a) ≡ total (cell_tally p t a) (band_top r y) (band_rows t.rows r y)
  tally_column a =
      tally_joined p (λ j. option_to_list (height_at t (walked_place t r y a j))) 0 (band_rows t.rows r y)
      ∙ either_way (cell_tally p t a) (band_top r y) (band_rows t.rows r y) (eqb (a % 2) 0)

  -- what a test counts at a cell of the window, and 0 at any other
  abbrev among_window : ℕ → ℕ → ℕ
  among_window a b = cond (near r x a && near r y b) (cell_tally p t a b) 0

  -- the tally of a window, row by row
  tally_rows : tally p (window_heights t r (record { x = x; y = y })) ≡ total (λ b. total (λ a. among_window a b) 0 t.width) 0 t.rows
  tally_rows =
      let here : Place = record { x = x; y = y } in
      let f : Place → List X = λ q. cond (reaches r here q) (option_to_list (height_at t q)) [] in
      let g : ℕ → List Place = λ b. map (λ a. record { x = a; y = b }) (range_with_len 0 t.width) in
      tally_joined_joined p f g 0 t.rows
      ∙ total_ext (λ b. tally p (flat_map f (g b))) (λ b. total (λ a. among_window a b) 0 t.width) 0 t.rows
      (λ b _ _. tally_joined_map p f (λ a. record { x = a; y = b }) 0 t.width
      ∙ total_ext (λ a. tally p (f (record { x = a; y = b }))) (λ a. among_window a b) 0 t.width (λ a _ _. tally_cond p (near r x a && near r y b) (option_to_list (height_at t (record { x = a; y = b })))))

  -- the sum down a column of the grid is that down its part in the band
  one_column : (a : ℕ) → y < t.rows → near r x a ≡ true → total (λ b. among_window a b) 0 t.rows ≡ tally p (column_heights t r y a)
  one_column a iny n =
      let f : ℕ → ℕ = λ b. among_window a b in
      let part = total_part f t.rows (y - r) (min t.rows (y + r + 1)) (omega arith) (omega arith)
      (λ i q. let z = near_low r y i q in let k : f i ≡ 0 = rw (n, z) in k)
      (λ i q s. let z = near_high r y i (omega arith) in let k : f i ≡ 0 = rw (n, z) in k) in
      let same = total_ext f (cell_tally p t a) (y - r) (min t.rows (y + r + 1) - (y - r)) (λ i u q. let z = near_yes r y i u (omega arith) in let k : f i ≡ cell_tally p t a i = rw (n, z) in k) in
      part ∙ (same ∙ sym (tally_column a))

  -- the columns around a cell count what its window counts
  pub tally_window : x < t.width → y < t.rows → tally p (columns_heights t r y (x - r) (min t.width (x + r + 1))) ≡ tally p (window_heights t r (record { x = x; y = y }))
  tally_window inx iny =
      let f : ℕ → ℕ = λ a. total (λ b. among_window a b) 0 t.rows in
      let part = total_part f t.width (x - r) (min t.width (x + r + 1)) (omega arith) (omega arith)
      (λ i q. let z = near_low r x i q in total_none (λ b. among_window i b) 0 t.rows (λ b _ _. rw z))
      (λ i q s. let z = near_high r x i (omega arith) in total_none (λ b. among_window i b) 0 t.rows (λ b _ _. rw z)) in
      let same = total_ext f (λ a. tally p (column_heights t r y a)) (x - r) (min t.width (x + r + 1) - (x - r)) (λ i u v. one_column i iny (near_yes r x i u (omega arith))) in
      tally_joined p (column_heights t r y) (x - r) (min t.width (x + r + 1) - (x - r))
      ∙ (sym same ∙ (sym part ∙ (total_swap (λ a b. among_window a b) 0 t.width 0 t.rows ∙ sym tally_rows)))

-- the columns around a cell hold the heights of its window
pub same_window : {X : Type 0} (le : X → X → Bool) (t : Terrain X) (r x y : ℕ) → x < t.width → y < t.rows
    → Same le (columns_heights t r y (x - r) (min t.width (x + r + 1))) (window_heights t r (record { x = x; y = y }))
same_window le t r x y inx iny = record { tallies = λ p _. tally_window p t r x y inx iny }

count_cell : {X : Type 0} (le : X → X → Bool) (h : X) (b : Bool) (o : Option X) → cond (b && is_not_higher le o (Some h)) 1 0 ≡ tally (λ k. le k h) (cond b (option_to_list o) [])
count_cell le h true None = refl
count_cell le h true (Some k) = omega arith
count_cell le h false o = refl

count_places : {X : Type 0} (le : X → X → Bool) (t : Terrain X) (r : ℕ) (at : Place) (h : X) (qs : List Place)
    → tally (λ q. reaches r at q && is_not_higher le (height_at t q) (Some h)) qs ≡ up_to le (flat_map (λ q. cond (reaches r at q) (option_to_list (height_at t q)) []) qs) h
count_places le t r at h [] = refl
count_places le t r at h (q ∷ qs) =
    omega (
      arith,
      count_cell le h (reaches r at q) (height_at t q),
      count_places le t r at h qs,
      tally_append (λ k. le k h) (cond (reaches r at q) (option_to_list (height_at t q)) []) (flat_map (λ q. cond (reaches r at q) (option_to_list (height_at t q)) []) qs),
    )

-- the count of a cell is that of the heights of its window that are not higher
pub count_window : {X : Type 0} (le : X → X → Bool) (t : Terrain X) (r : ℕ) (at : Place) (h : X) → height_at t at ≡ Some h → count_at le t r at ≡ up_to le (window_heights t r at) h
count_window le t r at h e =
    ap (λ o. tally (λ q. reaches r at q && is_not_higher le (height_at t q) o) (cells t.width t.rows)) e ∙ count_places le t r at h (cells t.width t.rows)

-- at most one height is at a place
one_at_most : {X : Type 0} (o : Option X) → length (option_to_list o) ≤ 1
one_at_most None = omega arith
one_at_most (Some h) = omega arith

-- a column of the band has no more heights than the band has rows
pub length_column : {X : Type 0} (t : Terrain X) (r y x : ℕ) → length (column_heights t r y x) ≤ band_rows t.rows r y
length_column t r y x =
    omega (arith, length_joined_le (λ j. option_to_list (height_at t (walked_place t r y x j))) 1 (λ j. one_at_most (height_at t (walked_place t r y x j))) 0 (band_rows t.rows r y))

-- the columns around a cell have no more heights than there are places
pub columns_fit : {X : Type 0} (t : Terrain X) (r y x : ℕ) → y < t.rows → length (columns_heights t r y (x - r) (min t.width (x + r + 1))) ≤ places_needed t.width t.rows r
columns_fit t r y x iny =
    let k = min t.width (x + r + 1) - (x - r) in
    let long = length_joined_le (column_heights t r y) (band_rows t.rows r y) (length_column t r y) (x - r) k in
    let wide : k ≤ min t.width (2 * r + 1) = omega arith in
    let deep : band_rows t.rows r y ≤ min t.rows (2 * r + 1) = omega arith in
    let most : k * band_rows t.rows r y ≤ places_needed t.width t.rows r = mul-le-mul wide deep in
    omega (arith, long, most)
