use Rattle.finger_list.proofs.Packed.{tidy_positive}
use Rattle.finger_list.proofs.list.FingerList.way_to.Goals as goal

pub returns-clause-walked : goal.returns-clause-walked
returns-clause-walked g c =
    let m = c.args.self.now in
    λ fit. c.walk.ensures.walked fit.order (tidy_positive m.entries.now m.used m.held m.fingers m.tidy)
