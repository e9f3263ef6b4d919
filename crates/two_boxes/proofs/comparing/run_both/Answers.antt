use Rattle.std.proofs.Common.{rules}
use Rattle.two_boxes.proofs.Comparisons.{ran_both}
use Rattle.two_boxes.proofs.comparing.run_both.Goals as goal

pub returns-clause-two_boxes : goal.returns-clause-two_boxes
returns-clause-two_boxes g c = λ _. ran_both g.met.K.Height.ordered g.met.L.Height.ordered c.call_in_turn-apart.ensures.ran c.verdict_of.ensures (search rules) (search rules) (search rules) (search rules) (search rules) (search rules)
