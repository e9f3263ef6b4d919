use Rattle.pairs.proofs.Grids.{pairs_in_order}
use Rattle.pairs.proofs.pairs_are_in_order.Goals as goal

pub returns : goal.returns
returns c = pairs_in_order
