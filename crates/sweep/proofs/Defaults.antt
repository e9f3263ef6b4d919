-- The walk over a grid whose heights are all there, with a default height beyond them in place of options.
use Rattle.std.proofs.Common.{◌≡◌, ℕ, zero, suc, ◌+◌, ◌-◌, ◌*◌, ◌%◌, ◌<◌, ◌≤◌, min, Bool, true, false, cond, eqb, List, [], ◌∷◌, ◌++◌, map, length, get_or, Some, None, refl, ap, ◌∙◌, arith}
use Rattle.std.specs.List.{range_with_len, flat_map, slice_get}
use Rattle.std.specs.Option.{option_to_list}
use Rattle.std.proofs.lemmas.Nat.{mul-add-lt}
use Rattle.std.proofs.lemmas.Option.{slice_get-get_or}
use Rattle.std.proofs.lemmas.Bool.{lt-ltb}
use Rattle.counters.specs.Calls.{Call, put, take, ask}
use Rattle.grid.specs.Terrain.{Terrain, height_at}
use Rattle.sweep.specs.Walk.{band_top, band_rows, walked_row, walked_place, column_heights, columns_heights, taken_before, put_before, turn_calls, row_calls}

-- what is joined over a range of lists that are equal there
pub joined_ext : {X : Type 0} (f g : ℕ → List X) (a n : ℕ) → ((i : ℕ) → a ≤ i → i < a + n → f i ≡ g i) → flat_map f (range_with_len a n) ≡ flat_map g (range_with_len a n)
joined_ext f g a zero e = refl
joined_ext f g a (suc n) e =
    ap (λ l. l ++ flat_map f (range_with_len (a + 1) n)) (e a (omega arith) (omega arith)) ∙ ap (λ l. g a ++ l) (joined_ext f g (a + 1) n (λ i p q. e i (omega arith) (omega arith)))

-- what is joined over a range with one element at each number
pub joined_ones : {X : Type 0} (f : ℕ → List X) (g : ℕ → X) (a n : ℕ) → ((i : ℕ) → a ≤ i → i < a + n → f i ≡ g i ∷ []) → flat_map f (range_with_len a n) ≡ map g (range_with_len a n)
joined_ones f g a zero e = refl
joined_ones f g a (suc n) e =
    ap (λ l. l ++ flat_map f (range_with_len (a + 1) n)) (e a (omega arith) (omega arith)) ∙ ap (λ l. g a ∷ l) (joined_ones f g (a + 1) n (λ i p q. e i (omega arith) (omega arith)))

-- the height at a column and a row, d beyond the heights
abbrev pub height_or : {X : Type 0} → X → Terrain X → ℕ → ℕ → X
height_or d t x y = get_or t.heights (y * t.width + x) d

-- column x of the band as it is walked
abbrev pub column_or : {X : Type 0} → X → Terrain X → (r y x : ℕ) → List X
column_or d t r y x = map (λ j. height_or d t x (walked_row (band_top r y) (band_rows t.rows r y) x j)) (range_with_len 0 (band_rows t.rows r y))

-- the columns of the band from a to just before b
abbrev pub columns_or : {X : Type 0} → X → Terrain X → (r y a b : ℕ) → List X
columns_or d t r y a b = flat_map (column_or d t r y) (range_with_len a (b - a))

-- the calls at the turn of x
abbrev pub turn_or : {X : Type 0} → X → Terrain X → (r y x : ℕ) → List (Call X)
turn_or d t r y x =
    map take (columns_or d t r y (taken_before r x) (x - r))
    ++ (map put (columns_or d t r y (put_before t.width r x) (min t.width (x + r + 1)))
    ++ (ask (height_or d t x y) ∷ []))

-- a cell walked lies in the grid
pub walked_inside : (rows r y x j : ℕ) → y < rows → j < band_rows rows r y → walked_row (band_top r y) (band_rows rows r y) x j < rows
walked_inside rows r y x j iny lt = either (eqb (x % 2) 0)
  where
    either : (b : Bool) → cond b (band_top r y + j) (band_top r y + (band_rows rows r y - 1 - j)) < rows
    either true = omega arith
    either false = omega arith

module _ {X : Type 0} (d : X) (t : Terrain X) (all : length t.heights ≡ t.width * t.rows) where
  -- the height of a cell
  pub height_is : (x y : ℕ) → x < t.width → y < t.rows → height_at t (record { x = x; y = y }) ≡ Some (height_or d t x y)
  height_is x y inx iny =
      ap (λ b. cond b (slice_get t.heights (y * t.width + x)) None) (lt-ltb x t.width inx)
      ∙ slice_get-get_or t.heights (y * t.width + x) d (omega (arith, all, mul-add-lt y t.width x t.rows iny inx))

  -- a column
  pub column_is : (r y x : ℕ) → x < t.width → y < t.rows → column_heights t r y x ≡ column_or d t r y x
  column_is r y x inx iny =
      joined_ones (λ j. option_to_list (height_at t (walked_place t r y x j))) (λ j. height_or d t x (walked_row (band_top r y) (band_rows t.rows r y) x j)) 0 (band_rows t.rows r y)
      (λ j p q. ap option_to_list (height_is x (walked_row (band_top r y) (band_rows t.rows r y) x j) inx (walked_inside t.rows r y x j iny (omega arith))))

  -- columns
  pub columns_are : (r y a b : ℕ) → b ≤ t.width → y < t.rows → columns_heights t r y a b ≡ columns_or d t r y a b
  columns_are r y a b fits iny = joined_ext (column_heights t r y) (column_or d t r y) a (b - a) (λ x p q. column_is r y x (omega arith) iny)

  -- a turn
  pub turn_is : (r y x : ℕ) → x < t.width → y < t.rows → turn_calls t r y x ≡ turn_or d t r y x
  turn_is r y x inx iny =
      let e1 = columns_are r y (taken_before r x) (x - r) (omega arith) iny in
      let e2 = columns_are r y (put_before t.width r x) (min t.width (x + r + 1)) (omega arith) iny in
      let e3 = height_is x y inx iny in
      cc

  -- the row
  pub row_or : (r y : ℕ) → y < t.rows → row_calls t r y ≡ flat_map (turn_or d t r y) (range_with_len 0 t.width)
  row_or r y iny = joined_ext (turn_calls t r y) (turn_or d t r y) 0 t.width (λ x p q. turn_is r y x (omega arith) iny)
