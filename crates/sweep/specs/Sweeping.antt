-- What a row's sweep asks of its arguments, and what it leaves.
use Rattle.std.specs.Prelude.{◌≡◌, ℕ, ◌+◌, ◌-◌, ◌*◌, ◌<◌, ◌≤◌, min, Bool, ◌&&◌, ◌⊎◌, List, length, get_or, Some, ◌==◌, nat_le, nat_lt, slice_index_or}
use Rattle.counters.specs.Held.{Same}
use Rattle.counters.specs.Calls.{View, Ran, begun}
use Rattle.grid.specs.declared.CellRecord.{CellRecord}
use Rattle.grid.specs.Terrain.{Terrain, heights_of, height_at}
use Rattle.grid.specs.Window.{count_at, window_heights}
use Rattle.sweep.specs.Walk.{band_top, row_calls}

-- how many places a sweep needs: those of the largest window that the grid can have
abbrev pub places_needed : (width rows r : ℕ) → ℕ
places_needed width rows r = min width (2 * r + 1) * min rows (2 * r + 1)

-- a row can be swept: the grid has 1 to 1024 columns and at most 1024 rows, the radius is 1 to 255, the row is one of the
-- grid's, there is a record for each cell, and the counter has places for any window
abbrev pub can_sweep : (places fitted width rows r y : ℕ) → Bool
can_sweep places fitted width rows r y =
    nat_le 1 width && nat_le width 1024 && nat_le rows 1024 && nat_le 1 r && nat_le r 255 && nat_lt y rows && fitted == width * rows && nat_le (places_needed width rows r) places

-- the grid that cell records hold
abbrev pub terrain_of : {X : Type 0} → (width rows : ℕ) → List (CellRecord X) → Terrain X
terrain_of width rows records = record { width = width; rows = rows; heights = heights_of records }

-- what the sweep of row y of the grid t with radius r leaves: the records before and after it, what the counter showed
-- before and shows after it, and the mileage answered
pub record Swept {X : Type 0} (le : X → X → Bool) (t : Terrain X) (r y : ℕ) (before after : List (CellRecord X)) (old new : View X) (mileage : ℕ) : Type 0 where
  -- every height is as before
  pub heights : heights_of after ≡ heights_of before
  -- the count of each cell of the row is recorded
  pub counts : (x : ℕ) (d : CellRecord X) → x < t.width → (get_or after (y * t.width + x) d).count ≡ count_at le t r (record { x = x; y = y })
  -- there are as many records as before
  pub length_is : length after ≡ length before
  -- the records of all other rows are as before
  pub others : (i : ℕ) (d : CellRecord X) → (i < y * t.width) ⊎ ((y + 1) * t.width ≤ i) → slice_index_or after i d ≡ slice_index_or before i d
  -- the answer is the counter's mileage
  pub answer : mileage ≡ new.mileage
  -- begin was given the height of the first cell walked and that of the row's first cell
  pub first : X
  pub first_is : height_at t (record { x = 0; y = band_top r y }) ≡ Some first
  pub asked : X
  pub asked_is : height_at t (record { x = 0; y = y }) ≡ Some asked
  -- after begin the counter carried out the row's calls, in their order
  pub ran : Ran le (begun old first asked) (row_calls t r y) new
  -- the counter holds the window of the row's last cell
  pub held : Same le new.held (window_heights t r (record { x = t.width - 1; y = y }))
