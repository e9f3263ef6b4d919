-- The room that the program's arrays take.
use Rattle.std.specs.Prelude.{◌*◌, ◌^◌, ◌<◌}
use Rattle.std.specs.Mem.{type_size}
use denote.RattleType.{RattleType}
use Rattle.grid.specs.contracts.CellRecord as cell
use Rattle.shift_array.specs.contracts.entry.Entry as array
use Rattle.finger_list.specs.contracts.entry.Entry as finger

-- 1,024 records and 1,027 entries of heights of this type are fewer bytes than an array may have
pub record HaveRoom (H : RattleType) : Type 0 where
  pub records : 1024 * type_size (cell.the_row H) < 2 ^ 63
  pub fingers : 1027 * type_size (finger.the_row H) < 2 ^ 63
  pub shifted : 1027 * type_size (array.the_row H) < 2 ^ 63
