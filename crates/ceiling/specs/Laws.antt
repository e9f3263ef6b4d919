-- Two laws about the steps of finger lists over the sweep of a grid.
use Rattle.std.specs.Prelude.{◌≡◌, ℕ, ◌+◌, ◌*◌, ◌≤◌, Bool, sum_by}
use Rattle.std.specs.List.{range_with_len}
use Rattle.grid.specs.Terrain.{Terrain}
use Rattle.grid.specs.Alike.{AllHeights, Alike}
use Rattle.ceiling.specs.Roughness.{roughness, FingerSwept, WholeSweep}

-- the same row of two grids whose cells compare alike, swept with the same radius and finger lists, has equal mileages: the
-- steps depend on nothing but on how heights compare
abbrev pub EqualSteps : {X Y : Type 0} → (X → X → Bool) → (Y → Y → Bool) → Type 0
EqualSteps {X} {Y} le le' = (t : Terrain X) (t' : Terrain Y) (r y mileage mileage' : ℕ) → Alike le le' t t' → FingerSwept le t r y mileage → FingerSwept le' t' r y mileage' → mileage ≡ mileage'

-- the same row of one grid, swept with the same radius and any two finger lists, has equal mileages: so it is of a bare list and
-- of a list under a layer
abbrev pub SameSteps : {X : Type 0} → (X → X → Bool) → Type 0
SameSteps {X} le = (t : Terrain X) (r y mileage mileage' : ℕ) → AllHeights t → FingerSwept le t r y mileage → FingerSwept le t r y mileage' → mileage ≡ mileage'

-- over all rows of a grid, swept with radius r and finger lists, the mileages sum up to at most 4 r + 1 times the roughness
abbrev pub Ceiling : {X : Type 0} → (X → X → Bool) → Type 0
Ceiling {X} le = (t : Terrain X) (r : ℕ) (mileages : ℕ → ℕ) → AllHeights t → 1 ≤ t.width → 1 ≤ r → WholeSweep le t r mileages → sum_by mileages (range_with_len 0 t.rows) ≤ (4 * r + 1) * roughness le t
