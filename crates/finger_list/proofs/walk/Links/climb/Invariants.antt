use Rattle.std.proofs.Common.{◌≡◌, ◌*◌, ◌≤◌}
use Rattle.finger_list.specs.Linking.{InOrder}
use Rattle.finger_list.specs.Walking.{NotOver, Went}
use Rattle.finger_list.proofs.walk.Links.climb.Given as goal

abbrev pub invariant-loop-steps : goal.invariant-loop-steps
invariant-loop-steps g l =
    (l.way.link ≤ l.self.used) × (l.way.steps ≡ l.steps) × (l.way.passed ≤ l.way.steps * 1048576)
    × (InOrder g.H.Height.not_higher l.self.entries.now l.self.used → NotOver g.H.Height.not_higher l.self.entries.now l.from l.height
    → Went g.H.Height.not_higher l.self.entries.now l.self.used l.from l.way.link l.way.steps l.way.passed
    × NotOver g.H.Height.not_higher l.self.entries.now l.way.link l.height)
