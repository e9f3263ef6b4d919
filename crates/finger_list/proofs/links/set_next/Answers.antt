use Rattle.finger_list.proofs.Rewriting.{next_set}
use Rattle.finger_list.proofs.links.set_next.Goals as goal

pub returns : goal.returns
returns g c = next_set c.args.entries.now c.args.at c.args.next c.index-entries-at.result
