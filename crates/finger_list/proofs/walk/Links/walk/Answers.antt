use Rattle.std.proofs.Common.{◌≤◌, sym, refl}
use Rattle.finger_list.specs.declared.entry.Entry.{Entry}
use Rattle.finger_list.proofs.Distances.{at_under, at_over, moved_up, moved_down, passed_all}
use Rattle.finger_list.proofs.walk.Links.walk.Goals as goal

pub returns-in-None-clause-walked : goal.returns-in-None-clause-walked
returns-in-None-clause-walked g c = λ s pos at.
    let es = c.args.self.now.entries.now in
    let used = c.args.self.now.used in
    let h = c.args.height in
    let r = c.climb.result in
    let d : Entry g.row.H.Denot = record { height = h; number = 0; next = 0; prev = 0 } in
    let w = c.climb.ensures.walked s (λ e nz. absurd (nz refl)) in
    rw c.in-None.is (w.1, passed_all g.H.Height.not_higher es used h r d c.args.self.now.linked.0 w)

pub returns-then-is_not_higher-clause-walked : goal.returns-then-is_not_higher-clause-walked
returns-then-is_not_higher-clause-walked g c = λ s pos.
    let o = g.met.H.Height.ordered in
    let es = c.args.self.now.entries.now in
    let used = c.args.self.now.used in
    let f = c.in-Some.finger in
    let p = f.height in
    let h = c.args.height in
    let r = c.climb-then-is_not_higher.result in
    let d : Entry g.row.H.Denot = record { height = h; number = 0; next = 0; prev = 0 } in
    let ph = sym c.if-is_not_higher.ensures in
    let low : f.link ≤ used = rw c.in-Some.is at c.requires.within in
    rw c.in-Some.is
    (λ at. moved_up o es used p h f.link r d c.args.self.now.linked.0 s pos at ph (c.climb-then-is_not_higher.ensures.walked s (at_under o es used p h f.link low at ph)))

pub returns-else-is_not_higher-clause-walked : goal.returns-else-is_not_higher-clause-walked
returns-else-is_not_higher-clause-walked g c = λ s pos.
    let o = g.met.H.Height.ordered in
    let es = c.args.self.now.entries.now in
    let used = c.args.self.now.used in
    let f = c.in-Some.finger in
    let p = f.height in
    let h = c.args.height in
    let r = c.descend.result in
    let d : Entry g.row.H.Denot = record { height = h; number = 0; next = 0; prev = 0 } in
    let ph = sym c.if-is_not_higher.ensures in
    rw c.in-Some.is
    (λ at. moved_down o es used p h f.link r d c.args.self.now.linked.0 s pos at ph (c.descend.ensures.walked s (at_over o es used p h f.link at ph)))
