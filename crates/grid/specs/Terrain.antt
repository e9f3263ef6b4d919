-- A grid of heights. Column x runs from 0 from the west, row y from 0 from the north. Reading order goes row by row from the
-- north, each row from the west.
use Rattle.std.specs.Prelude.{ℕ, ◌+◌, ◌*◌, ◌<◌, cond, List, map, None, Option, nat_lt}
use Rattle.std.specs.List.{range_with_len, flat_map, slice_get}
use Rattle.grid.specs.declared.Place.{Place}
use Rattle.grid.specs.declared.CellRecord.{CellRecord}

-- columns, rows, and the heights in reading order
pub record Terrain (X : Type 0) : Type 0 where
  pub width : ℕ
  pub rows : ℕ
  pub heights : List X

-- the heights of cell records
abbrev pub heights_of : {X : Type 0} → List (CellRecord X) → List X
heights_of records = map (λ c. c.height) records

-- the place is a cell of the grid
abbrev pub Inside : {X : Type 0} → Terrain X → Place → Type 0
Inside t p = (p.x < t.width) × (p.y < t.rows)

-- all cells of a grid in reading order
abbrev pub cells : (width rows : ℕ) → List Place
cells width rows = flat_map (λ y. map (λ x. record { x = x; y = y }) (range_with_len 0 width)) (range_with_len 0 rows)

-- how many cells come before a place in reading order
abbrev pub reading_index : ℕ → Place → ℕ
reading_index width p = p.y * width + p.x

-- the height at a place; there is none beyond the edge
abbrev pub height_at : {X : Type 0} → Terrain X → Place → Option X
height_at t p = cond (nat_lt p.x t.width) (slice_get t.heights (reading_index t.width p)) None
