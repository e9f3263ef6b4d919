use Rattle.ceiling.proofs.Comparing.{equal_steps}
use Rattle.ceiling.proofs.equal_steps_hold.Goals as goal

pub returns : goal.returns
returns g c = equal_steps g.met.H.Height.ordered g.met.K.Height.ordered
