-- The records that open makes of the heights that it reads.
use Rattle.std.specs.Prelude.{ℕ, List, [], Ok, Err, Result}
use Rattle.heights.specs.Meaning.{Storage}
use Rattle.grid.specs.declared.CellRecord.{CellRecord}
use Rattle.siting_box.specs.Stored.{read_first}

-- the record of a cell that is not counted yet
abbrev pub fresh : {X : Type 0} → X → CellRecord X
fresh h = record { height = h; count = 0 }

-- the heights of a reading that succeeded
abbrev pub ok_heights : {X C : Type 0} → Result (List X) (ℕ × C) → List X
ok_heights (Ok hs) = hs
ok_heights (Err e) = []

-- the first so many stored heights, where all of them read
abbrev pub heights_read : {X C : Type 0} → Storage X C → List ℕ → ℕ → List X
heights_read k bytes n = ok_heights (read_first k bytes n)
