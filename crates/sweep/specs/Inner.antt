-- What the parts of a sweep ask and leave.
use Rattle.std.specs.Prelude.{◌≡◌, ℕ, ◌+◌, ◌-◌, ◌*◌, ◌≤◌, min, Bool, List, ◌++◌, length, get_or, ◌≢◌, slice_index_or}
use Rattle.counters.specs.Held.{Same}
use Rattle.counters.specs.Calls.{View, Call, put, take, Ran}
use Rattle.grid.specs.declared.CellRecord.{CellRecord}
use Rattle.grid.specs.Terrain.{Terrain, heights_of}
use Rattle.grid.specs.Window.{count_at}
use Rattle.sweep.specs.declared.band.Band.{Band}
use Rattle.sweep.specs.declared.column.Change.{Change}
use Rattle.sweep.specs.declared.column.Change.TheVariants.{Put, Take}
use Rattle.sweep.specs.Sweeping.{terrain_of}
use Rattle.sweep.specs.Walk.{columns_heights, turn_calls}

-- the grid that a band lies in
abbrev pub terrain : {X : Type 0} → Band → List (CellRecord X) → Terrain X
terrain b records = terrain_of b.width b.rows records

-- the call that changes what is held by one height
abbrev pub call_of : {X : Type 0} → Change → X → Call X
call_of Put h = put h
call_of Take h = take h

-- a counter will refuse none of these changes: it has places for all heights put, it holds all heights taken
abbrev pub Ready : {X : Type 0} → (X → X → Bool) → View X → Change → List X → Type 0
Ready le v Put hs = length v.held + length hs ≤ v.places
Ready {X} le v Take hs = (rest : List X) × Same le v.held (hs ++ rest)

-- what the turn of x leaves
pub record Turned {X : Type 0} (le : X → X → Bool) (t : Terrain X) (r y x : ℕ) (before after : List (CellRecord X)) (old new : View X) : Type 0 where
  -- every height is as before
  pub heights : heights_of after ≡ heights_of before
  -- the count of the cell is recorded
  pub count : (d : CellRecord X) → (get_or after (y * t.width + x) d).count ≡ count_at le t r (record { x = x; y = y })
  -- all other records are as before
  pub others : (i : ℕ) (d : CellRecord X) → (i ≢ y * t.width + x) → slice_index_or after i d ≡ slice_index_or before i d
  -- the counter carried out the calls of the turn
  pub ran : Ran le old (turn_calls t r y x) new
  -- the columns at most r away are held
  pub held : Same le new.held (columns_heights t r y (x - r) (min t.width (x + r + 1)))
