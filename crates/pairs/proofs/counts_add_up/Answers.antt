use Rattle.pairs.proofs.Grids.{counts_add_up}
use Rattle.pairs.proofs.counts_add_up.Goals as goal

pub returns : goal.returns
returns g c = counts_add_up g.met.H.Height.ordered
