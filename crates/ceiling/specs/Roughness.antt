-- How rough a grid is, and what it is to sweep a row, or all rows, with finger lists.
use Rattle.std.specs.Prelude.{◌≡◌, ℕ, ◌+◌, ◌<◌, Bool, true, List, Some, None, sum_by, Option}
use Rattle.counters.specs.Calls.{View, finger_steps}
use Rattle.counters.specs.Fingers.{by_fingers}
use Rattle.grid.specs.declared.Place.{Place}
use Rattle.grid.specs.declared.CellRecord.{CellRecord}
use Rattle.grid.specs.Terrain.{Terrain, cells, height_at}
use Rattle.sweep.specs.Sweeping.{Swept}

-- the climb between the heights of two cells: how many distinct heights of the grid lie above the lower of the two and not
-- above the higher; 0 where a cell lies beyond the edge
abbrev pub climb : {X : Type 0} → (X → X → Bool) → List X → Option X → Option X → ℕ
climb le heights None b = 0
climb le heights (Some a) None = 0
climb le heights (Some a) (Some b) = finger_steps le heights a b

-- the place beside a place in the east
abbrev pub east_of : Place → Place
east_of p = record { x = p.x + 1; y = p.y }

-- the place beside a place in the south
abbrev pub south_of : Place → Place
south_of p = record { x = p.x; y = p.y + 1 }

-- the climb from a cell to the one in the east and that to the one in the south, together
abbrev pub climbs_from : {X : Type 0} → (X → X → Bool) → Terrain X → Place → ℕ
climbs_from le t p = climb le t.heights (height_at t p) (height_at t (east_of p)) + climb le t.heights (height_at t p) (height_at t (south_of p))

-- the roughness of a grid: the sum of the climbs over all pairs of cells that share a side, each pair once
abbrev pub roughness : {X : Type 0} → (X → X → Bool) → Terrain X → ℕ
roughness le t = sum_by (climbs_from le t) (cells t.width t.rows)

-- row y of the grid t was swept with radius r and a finger list, and the mileage was answered
pub record FingerSwept {X : Type 0} (le : X → X → Bool) (t : Terrain X) (r y mileage : ℕ) : Type 0 where
  -- the records before and after it
  pub before : List (CellRecord X)
  pub after : List (CellRecord X)
  -- what the counter showed before and shows after it
  pub old : View X
  pub new : View X
  pub swept : Swept le t r y before after old new mileage
  pub counted : by_fingers old.rule ≡ true

-- each row of the grid was swept with radius r and a finger list, and the mileages were answered; the rows may have been
-- swept in any order and with different lists
abbrev pub WholeSweep : {X : Type 0} → (X → X → Bool) → Terrain X → ℕ → (ℕ → ℕ) → Type 0
WholeSweep le t r mileages = (y : ℕ) → y < t.rows → FingerSwept le t r y (mileages y)
