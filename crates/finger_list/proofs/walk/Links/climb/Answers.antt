use Rattle.std.proofs.Common.{◌≡◌, ◌<◌, true, false, length, get_or, sym, subst, ◌∙◌, arith, rules}
use Rattle.std.proofs.lemmas.List.{get_or_default}
use Rattle.finger_list.specs.declared.entry.Entry.{Entry}
use Rattle.finger_list.specs.Entries.{height_at}
use Rattle.finger_list.specs.Walking.{Went}
use Rattle.finger_list.proofs.Adjacency.{height_read, in_range, stops_full, stops_up, up_read, went_up}
use Rattle.finger_list.proofs.walk.Links.climb.Goals as goal
use Rattle.finger_list.proofs.walk.Links.climb.Goals.{then-next-eq0-via-then-next-eq0, then-next-eq0-via-else-next-eq0+then-not-is_not_higher}

pub offset_bounds-self-next : goal.offset_bounds-self-next
offset_bounds-self-next g c =
    let es = c.args.self.now.entries.now in
    let used = c.args.self.now.used in
    let i = c.loop-steps.way.link in
    let here = get_or es i c.index-self-way.result in
    let lt : i < length es = omega arith in
    let r = in_range es used i here c.args.self.now.linked (omega arith) lt (get_or_default es i c.index-self-way.result here lt) in
    let lt₂ : here.next < length es = omega (arith, r) in
    search rules

pub returns-then-next-eq0-clause-walked : goal.returns-then-next-eq0-clause-walked
returns-then-next-eq0-clause-walked g c = λ s u.
    let le = g.H.Height.not_higher in
    let es = c.args.self.now.entries.now in
    let used = c.args.self.now.used in
    let h = c.args.height in
    let i = c.loop-steps.way.link in
    let w = c.loop-steps.invariant.3 s u in
    let here = get_or es i c.index-self-way.result in
    let lt : i < length es = omega arith in
    let is = get_or_default es i c.index-self-way.result here lt in
    let r = in_range es used i here c.args.self.now.linked (omega arith) lt is in
    let lt₂ : here.next < length es = omega (arith, r) in
    let above = get_or es here.next c.index-self-next.result in
    let is₂ = get_or_default es here.next c.index-self-next.result above lt₂ in
    let over : (d : Entry g.row.H.Denot) → (here.next ≡ 0 → ⊥) → le (height_at es d here.next) h ≡ false
    = λ d nz. elim c.then-next-eq0.branch [
      | then-next-eq0-via-then-next-eq0 w ↦ absurd (nz w.if-next-eq0.true)
      | then-next-eq0-via-else-next-eq0+then-not-is_not_higher w ↦
          height_read le es here.next above h false lt₂ is₂ (sym w.is_not_higher.ensures ∙ w.if-not-is_not_higher.true) d
    ] in
    (w.0, stops_up g.met.H.Height.ordered es used i here.next h w.1 (up_read le es used i here s (omega arith) lt is) over)

pub loop-steps-preserved : goal.loop-steps-preserved
loop-steps-preserved g c =
    let le = g.H.Height.not_higher in
    let es = c.args.self.now.entries.now in
    let used = c.args.self.now.used in
    let h = c.args.height in
    let i = c.loop-steps.way.link in
    let here = get_or es i c.index-self-way.result in
    let lt : i < length es = omega arith in
    let is = get_or_default es i c.index-self-way.result here lt in
    let r = in_range es used i here c.args.self.now.linked (omega arith) lt is in
    let lt₂ : here.next < length es = omega (arith, r) in
    let above = get_or es here.next c.index-self-next.result in
    let is₂ = get_or_default es here.next c.index-self-next.result above lt₂ in
    let r₂ = in_range es used here.next above c.args.self.now.linked r.0 lt₂ is₂ in (
      r.0,
      omega arith,
      omega (arith, r₂.2),
      λ s u.
          let w = c.loop-steps.invariant.3 s u in (
            went_up g.met.H.Height.ordered es used c.args.self.now.linked.0 s c.args.from i here.next c.loop-steps.steps c.loop-steps.way.passed above
                c.if-next-eq0.false r.0 is₂ (up_read le es used i here s (omega arith) lt is) (subst (λ n. Went le es used c.args.from i n c.loop-steps.way.passed) c.loop-steps.invariant.1 w.0),
            λ d pos. height_read le es here.next above h true lt₂ is₂ (sym c.if-not-is_not_higher.ensures) d,
          ),
    )

pub returns-clause-walked : goal.returns-clause-walked
returns-clause-walked g c = λ s u.
    let w = c.loop-steps.invariant.3 s u in
    (w.0, stops_full g.met.H.Height.ordered c.args.self.now.entries.now c.args.self.now.used c.loop-steps.way.link c.args.height c.args.self.now.linked.0 w.1 (λ d. omega (arith, w.0.ranks d)))
