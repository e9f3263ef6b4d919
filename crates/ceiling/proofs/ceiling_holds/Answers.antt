use Rattle.ceiling.proofs.Ceiling.{ceiling}
use Rattle.ceiling.proofs.ceiling_holds.Goals as goal

pub returns : goal.returns
returns g c = ceiling g.met.H.Height.ordered
