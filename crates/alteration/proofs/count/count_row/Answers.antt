use Rattle.std.proofs.Common.{arith}
use Rattle.std.proofs.lemmas.Bool.Decides.{nat_tests}
use Rattle.std.proofs.lemmas.Grind.{common_steps}
use Rattle.heights.proofs.Tallying.{tally_append, tally_le_length}
use Rattle.alteration.proofs.count.count_row.Goals as goal

pub overflow_add-count : goal.overflow_add-count
overflow_add-count g c = grind (arith, common_steps, tally_le_length)

pub loop-cell-preserved : goal.loop-cell-preserved
loop-cell-preserved g c = grind (arith, common_steps, nat_tests, tally_append)

pub returns-clause-few : goal.returns-clause-few
returns-clause-few g c = grind (arith, common_steps, tally_le_length)
