-- The same row of two grids whose cells compare alike takes finger lists equal steps.
use Rattle.std.proofs.Common.{◌≡◌, ℕ, ◌+◌, ◌*◌, ◌/◌, ◌%◌, ◌<◌, ◌≤◌, Bool, cond, length, get_or, Some, None, sym, refl, ap, ◌∙◌, ⊎_elim, mul-le-mul_right, mul_comm, arith}
use Rattle.std.specs.List.{slice_get}
use Rattle.std.proofs.lemmas.Nat.{div-add-mod', div_below, mod_below}
use Rattle.std.proofs.lemmas.List.{get_or_past}
use Rattle.std.proofs.lemmas.Option.{none-some, slice_get_past}
use Rattle.std.proofs.lemmas.Bool.{cases_lt, le-ltb, lt-ltb}
use Rattle.heights.specs.Order.{Preorder}
use Rattle.counters.specs.Calls.{mileage_after}
use Rattle.grid.specs.declared.Place.{Place}
use Rattle.grid.specs.Terrain.{Terrain, Inside, height_at}
use Rattle.grid.specs.Window.{is_not_higher}
use Rattle.sweep.specs.Walk.{band_top, band_rows}
use Rattle.sweep.proofs.Defaults.{height_or, height_is}
use Rattle.ceiling.specs.Laws.{EqualSteps, SameSteps}
use Rattle.grid.specs.Alike.{AllHeights, Alike}
use Rattle.ceiling.proofs.Ceiling.{row_mileage}
use Rattle.ceiling.proofs.Images.{equal_row_steps}
use Rattle.ceiling.proofs.Limit.{row_steps}

-- a grid in which there is a height at the start of row y has columns
found_wide : {X : Type 0} (t : Terrain X) (y : ℕ) (h : X) → height_at t (record { x = 0; y = y }) ≡ Some h → 0 < t.width
found_wide t y h e =
    ⊎_elim
    (λ (p : 0 < t.width). p)
    (λ (p : t.width ≤ 0). absurd (none-some h (sym (ap (λ b. cond b (slice_get t.heights (y * t.width + 0)) None) (le-ltb 0 t.width p)) ∙ e)))
    (cases_lt 0 t.width)

-- and y is one of its rows
found_row : {X : Type 0} (t : Terrain X) → AllHeights t → (y : ℕ) (h : X) → height_at t (record { x = 0; y = y }) ≡ Some h → y < t.rows
found_row t all y h e =
    ⊎_elim
    (λ (p : y < t.rows). p)
    (λ (p : t.rows ≤ y).
    let far : length t.heights ≤ y * t.width + 0 = omega (arith, all, mul_comm t.width t.rows, mul-le-mul_right {m = t.rows} {n = y} t.width p) in
    absurd (none-some h (sym (ap (λ b. cond b (slice_get t.heights (y * t.width + 0)) None) (lt-ltb 0 t.width (found_wide t y h e)) ∙ slice_get_past t.heights (y * t.width + 0) far) ∙ e)))
    (cases_lt y t.rows)

-- the cell with the index of column x and row y, in a grid so wide
abbrev place_of : (width x y : ℕ) → Place
place_of width x y = record { x = (y * width + x) % width; y = (y * width + x) / width }

place_inside : {X : Type 0} (t : Terrain X) → AllHeights t → 0 < t.width → (x y : ℕ) → y * t.width + x < length t.heights → Inside t (place_of t.width x y)
place_inside t all wide x y lt =
    let i = y * t.width + x in
    (mod_below i t.width wide, div_below i t.width t.rows wide (omega (arith, all, mul_comm t.width t.rows, lt)))

place_height : {X : Type 0} (d : X) (t : Terrain X) → AllHeights t → 0 < t.width → (x y : ℕ) → y * t.width + x < length t.heights → height_at t (place_of t.width x y) ≡ Some (height_or d t x y)
place_height d t all wide x y lt =
    let i = y * t.width + x in
    let u = place_inside t all wide x y lt in
    height_is d t all (i % t.width) (i / t.width) u.0 u.1 ∙ ap (λ k. Some (get_or t.heights k d)) (div-add-mod' i t.width)

-- a place at which two grids have what they have, or the defaults, at column x and row y
record Seat {X Y : Type 0} (d : X) (d' : Y) (t : Terrain X) (t' : Terrain Y) (x y : ℕ) : Type 0 where
  place : Place
  inside : Inside t place
  left : height_at t place ≡ Some (height_or d t x y)
  right : height_at t' place ≡ Some (height_or d' t' x y)

module _ {X Y : Type 0} {le : X → X → Bool} {le' : Y → Y → Bool} (t : Terrain X) (t' : Terrain Y) (like : Alike le le' t t') (d : X) (d' : Y) (row : ℕ)
    (here : height_at t (record { x = 0; y = row }) ≡ Some d) (here' : height_at t' (record { x = 0; y = row }) ≡ Some d') where
  lengths : length t.heights ≡ length t'.heights
  lengths = like.all ∙ (ap (λ k. k * t.rows) like.width ∙ (ap (λ k. t'.width * k) like.rows ∙ sym like.all'))

  index_is : (x y : ℕ) → y * t.width + x ≡ y * t'.width + x
  index_is x y = ap (λ k. y * k + x) like.width

  seat : (x y : ℕ) → Seat d d' t t' x y
  seat x y =
      ⊎_elim
      (λ (lt : y * t.width + x < length t.heights).
      record {
        place = place_of t.width x y;
        inside = place_inside t like.all (found_wide t row d here) x y lt;
        left = place_height d t like.all (found_wide t row d here) x y lt;
        right = ap (λ k. height_at t' (place_of k x y)) like.width ∙ place_height d' t' like.all' (found_wide t' row d' here') x y (omega (arith, lt, lengths, index_is x y));
      })
      (λ (past : length t.heights ≤ y * t.width + x).
      record {
        place = record { x = 0; y = row };
        inside = (found_wide t row d here, found_row t like.all row d here);
        left = here ∙ ap Some (sym (get_or_past t.heights (y * t.width + x) d past));
        right = here' ∙ ap Some (sym (get_or_past t'.heights (y * t'.width + x) d' (omega (arith, past, lengths, index_is x y))));
      })
      (cases_lt (y * t.width + x) (length t.heights))

  -- the cells compare alike at every column and row
  compare_any : (a b c e : ℕ) → le (height_or d t a b) (height_or d t c e) ≡ le' (height_or d' t' a b) (height_or d' t' c e)
  compare_any a b c e =
      let s = seat a b in
      let u = seat c e in
      sym (ap (λ o. is_not_higher le o (height_at t u.place)) s.left ∙ ap (λ o. is_not_higher le (Some (height_or d t a b)) o) u.left)
      ∙ (like.compare s.place u.place s.inside u.inside
      ∙ (ap (λ o. is_not_higher le' o (height_at t' u.place)) s.right ∙ ap (λ o. is_not_higher le' (Some (height_or d' t' a b)) o) u.right))

-- the law
pub equal_steps : {X Y : Type 0} {le : X → X → Bool} {le' : Y → Y → Bool} → Preorder le → Preorder le' → EqualSteps le le'
equal_steps {le = le} {le' = le'} o o' = λ t t' r y m m' like f f'.
    let d = f.swept.asked in
    let d' = f'.swept.asked in
    let here = f.swept.asked_is in
    let here' = f'.swept.asked_is in
    let one = row_mileage o d t like.all (found_wide t y d here) r y m (found_row t like.all y d here) f in
    let two = row_mileage o' d' t' like.all' (found_wide t' y d' here') r y m' (found_row t' like.all' y d' here') f' in
    let same = equal_row_steps le le' (height_or d t) (height_or d' t') t.width r (band_top r y) (band_rows t.rows r y) y (compare_any t t' like d d' y here here') in
    one
    ∙ (ap (mileage_after 0) same
    ∙ (ap (λ k. mileage_after 0 (row_steps le' (height_or d' t') k t.rows r y)) like.width
    ∙ (ap (λ k. mileage_after 0 (row_steps le' (height_or d' t') t'.width k r y)) like.rows ∙ sym two)))

-- finger lists take the same steps over a row of one grid
pub same_steps : {X : Type 0} {le : X → X → Bool} → Preorder le → SameSteps le
same_steps o t r y mileage mileage' all f g = equal_steps o o t t r y mileage mileage' (record { width = refl; rows = refl; all = all; all' = all; compare = λ p q i j. refl }) f g
