use Rattle.std.proofs.Common.{◌<◌, arith, rules}
use Rattle.std.proofs.lemmas.Nat.{mul-lt}
use Rattle.siting_box.proofs.search.squared_distance.Goals as goal

pub overflow_add-result : goal.overflow_add-result
overflow_add-result c =
    let columns : c.abs_diff-columns.result < 1048576 = omega (arith, c.abs_diff-columns.ensures, c.requires.from_small, c.requires.to_small) in
    let rows : c.abs_diff-rows.result < 1048576 = omega (arith, c.abs_diff-rows.ensures, c.requires.from_small, c.requires.to_small) in
    let p = mul-lt _ _ 1048576 1048576 columns columns in
    let q = mul-lt _ _ 1048576 1048576 rows rows in
    search rules
