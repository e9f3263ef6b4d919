-- What a box holds: a plan or none, and its cell records.
use Rattle.std.specs.Prelude.{◌≡◌, ℕ, ◌*◌, Bool, true, false, cond, ◌&&◌, List, [], map, take, Some, None, sum, Option, ◌==◌, nat_le, nat_lt}
use Rattle.std.specs.Option.{option_map}
use Rattle.std.specs.List.{slice_get}
use Rattle.grid.specs.declared.Plan.{Plan}
use Rattle.grid.specs.declared.CellRecord.{CellRecord}
use Rattle.grid.specs.declared.Place.{Place}
use Rattle.grid.specs.Terrain.{Terrain, Inside, reading_index, heights_of}
use Rattle.grid.specs.Window.{count_at}
use Rattle.grid.specs.Sizes.{lawful_sizes}

-- the plan, and all records fitted; the plan's cells are the first of them in reading order
pub record Contents (X : Type 0) : Type 0 where
  pub plan : Option Plan
  pub records : List (CellRecord X)

-- a plan, or none, with records
abbrev pub contents : {X : Type 0} → Option Plan → List (CellRecord X) → Contents X
contents plan records = record { plan = plan; records = records }

-- the sizes are lawful, no more rows are swept than there are, and the cells have records among so many
abbrev pub fits_in : Plan → ℕ → Bool
fits_in p fitted = lawful_sizes p.width p.rows p.radius && (nat_le p.swept p.rows && nat_le (p.width * p.rows) fitted)

-- so it is of the plan of every box, if it holds one
abbrev pub well_fitted : Option Plan → ℕ → Bool
well_fitted None fitted = true
well_fitted (Some p) fitted = fits_in p fitted

-- the grid of a plan; without one a grid that has no cell
abbrev pub plan_terrain : {X : Type 0} → Option Plan → List (CellRecord X) → Terrain X
plan_terrain None records = record { width = 0; rows = 0; heights = [] }
plan_terrain (Some p) records = record { width = p.width; rows = p.rows; heights = heights_of (take (p.width * p.rows) records) }

-- the radius of a plan's windows
abbrev pub radius_of : Option Plan → ℕ
radius_of None = 0
radius_of (Some p) = p.radius

-- whether a row is swept
abbrev pub is_swept : Option Plan → ℕ → Bool
is_swept None y = false
is_swept (Some p) y = nat_lt y p.swept

-- whether all rows are swept
abbrev pub all_swept : Option Plan → Bool
all_swept None = false
all_swept (Some p) = p.swept == p.rows

-- the count on record of a cell
abbrev pub count_on : {X : Type 0} → Contents X → Place → Option ℕ
count_on b q = option_map (λ c. c.count) (slice_get b.records (reading_index (plan_terrain b.plan b.records).width q))

-- every count in a swept row is the defined one, and every other count of the plan is 0
abbrev pub Counted : {X : Type 0} → (X → X → Bool) → Contents X → Type 0
Counted le b = (q : Place) → Inside (plan_terrain b.plan b.records) q → count_on b q ≡ Some (cond (is_swept b.plan q.y) (count_at le (plan_terrain b.plan b.records) (radius_of b.plan) q) 0)

-- how many cells a plan has
abbrev pub cells_of : Option Plan → ℕ
cells_of None = 0
cells_of (Some p) = p.width * p.rows

-- the counts on record of a plan's cells, in reading order; none without a plan
abbrev pub counts_of : {X : Type 0} → Option Plan → List (CellRecord X) → List ℕ
counts_of None records = []
counts_of (Some p) records = map (λ c. c.count) (take (p.width * p.rows) records)

-- those of a box
abbrev pub counts_on : {X : Type 0} → Contents X → List ℕ
counts_on b = counts_of b.plan b.records

-- the sum of the counts on record
abbrev pub total_on : {X : Type 0} → Contents X → ℕ
total_on b = sum (counts_on b)
