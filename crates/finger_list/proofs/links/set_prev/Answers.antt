use Rattle.finger_list.proofs.Rewriting.{prev_set}
use Rattle.finger_list.proofs.links.set_prev.Goals as goal

pub returns : goal.returns
returns g c = prev_set c.args.entries.now c.args.at c.args.prev c.index-entries-at.result
