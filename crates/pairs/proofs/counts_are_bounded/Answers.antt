use Rattle.pairs.proofs.Grids.{counts_bounded}
use Rattle.pairs.proofs.counts_are_bounded.Goals as goal

pub returns : goal.returns
returns g c = counts_bounded g.H.Height.not_higher
