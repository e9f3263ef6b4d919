-- What the alteration of a cell asks of its arguments, and what it leaves.
use Rattle.std.specs.Prelude.{◌≡◌, ℕ, ◌+◌, ◌*◌, ◌<◌, ◌≤◌, Bool, false, ◌&&◌, List, length, get_or, ◌==◌, nat_le, nat_lt, slice_index_or, slice_set}
use Rattle.grid.specs.declared.CellRecord.{CellRecord}
use Rattle.grid.specs.Terrain.{heights_of}
use Rattle.grid.specs.Window.{reaches, count_at}
use Rattle.sweep.specs.Sweeping.{terrain_of}

-- a cell can be altered: the grid has 1 to 1024 columns and 1 to 1024 rows, the radius is 1 to 255, no more rows are swept
-- than there are, the cell is one of the grid's, and there is a record for each cell
abbrev pub can_alter : (fitted width rows radius swept x y : ℕ) → Bool
can_alter fitted width rows radius swept x y =
    nat_le 1 width && nat_le width 1024 && nat_le 1 rows && nat_le rows 1024 && nat_le 1 radius && nat_le radius 255 && nat_le swept rows && nat_lt x width && nat_lt y rows && fitted == width * rows

-- the count on record of a cell in column x and row y is the defined one
abbrev pub CountedAt : {X : Type 0} → (X → X → Bool) → (width rows radius : ℕ) → List (CellRecord X) → (x y : ℕ) → CellRecord X → Type 0
CountedAt le width rows radius records x y d = (get_or records (y * width + x) d).count ≡ count_at le (terrain_of width rows records) radius (record { x = x; y = y })

-- what it leaves to give the cell in column x and row y another height: the records before and after it
pub record Altered {X : Type 0} (le : X → X → Bool) (width rows radius swept x y : ℕ) (height : X) (before after : List (CellRecord X)) : Type 0 where
  -- the cell has the height, and every other height is as before
  pub heights : heights_of after ≡ slice_set (heights_of before) (y * width + x) height
  -- there are as many records as before
  pub length_is : length after ≡ length before
  -- the counts of the rows that are not swept are as before
  pub unswept : (i : ℕ) (d : CellRecord X) → swept * width ≤ i → (get_or after i d).count ≡ (get_or before i d).count
  -- the cell's own count is the defined one, if its row is swept
  pub own : (d : CellRecord X) → y < swept → CountedAt le width rows radius after x y d
  -- each count of a swept row that was the defined one before is so after
  pub counts : (x' y' : ℕ) (d : CellRecord X) → x' < width → y' < swept → CountedAt le width rows radius before x' y' d → CountedAt le width rows radius after x' y' d
  -- the records of the cells out of reach are as before
  pub beyond : (x' y' : ℕ) (d : CellRecord X) → x' < width → y' < rows → reaches radius (record { x = x; y = y }) (record { x = x'; y = y' }) ≡ false
      → slice_index_or after (y' * width + x') d ≡ slice_index_or before (y' * width + x') d
