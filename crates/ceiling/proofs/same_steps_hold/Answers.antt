use Rattle.ceiling.proofs.Comparing.{same_steps}
use Rattle.ceiling.proofs.same_steps_hold.Goals as goal

pub returns : goal.returns
returns g c = same_steps g.met.H.Height.ordered
