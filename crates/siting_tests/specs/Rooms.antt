-- The room that the arrays of a session take.
use Rattle.std.specs.Prelude.{ℕ, ◌*◌, ◌^◌, ◌<◌}
use Rattle.std.specs.Mem.{type_size}
use denote.RattleType.{RattleType}
use Rattle.grid.specs.contracts.CellRecord as cell
use Rattle.shift_array.specs.contracts.entry.Entry as array
use Rattle.finger_list.specs.contracts.entry.Entry as finger

-- so many records of heights of this type are fewer bytes than an array may have
abbrev pub RecordsFit : RattleType → ℕ → Type 0
RecordsFit H n = n * type_size (cell.the_row H) < 2 ^ 63

-- so many entries of a shift array, too
abbrev pub ArrayFits : RattleType → ℕ → Type 0
ArrayFits H n = n * type_size (array.the_row H) < 2 ^ 63

-- so many entries of a finger list, too
abbrev pub FingersFit : RattleType → ℕ → Type 0
FingersFit H n = n * type_size (finger.the_row H) < 2 ^ 63
