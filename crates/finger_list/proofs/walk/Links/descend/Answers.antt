use Rattle.std.proofs.Common.{◌<◌, false, length, get_or, sym, subst, arith}
use Rattle.std.proofs.lemmas.List.{get_or_default}
use Rattle.finger_list.specs.Entries.{height_at, in_use}
use Rattle.finger_list.specs.Linking.{not_past}
use Rattle.finger_list.specs.Walking.{Went}
use Rattle.finger_list.proofs.Weights.{length_used, weighs_few}
use Rattle.finger_list.proofs.Adjacency.{down_read, height_read, in_range, still_over, stops_none, went_down}
use Rattle.finger_list.proofs.walk.Links.descend.Goals as goal

pub loop-steps-preserved : goal.loop-steps-preserved
loop-steps-preserved g c =
    let le = g.H.Height.not_higher in
    let o = g.met.H.Height.ordered in
    let es = c.args.self.now.entries.now in
    let used = c.args.self.now.used in
    let h = c.args.height in
    let i = c.loop-steps.way.link in
    let here = get_or es i c.index-self-way.result in
    let lt : i < length es = omega arith in
    let is = get_or_default es i c.index-self-way.result here lt in
    let r = in_range es used i here c.args.self.now.linked (omega arith) lt is in (
      r.1,
      omega arith,
      omega (arith, r.2),
      λ s u.
          let w = c.loop-steps.invariant.3 s u in
          let down = down_read le es used i here c.args.self.now.linked s (omega arith) lt is in
          let high = height_read le es i here h false lt is (sym c.if-is_not_higher.ensures) in (
            went_down o es used c.args.self.now.linked.0 s c.args.from here.prev i c.loop-steps.steps c.loop-steps.way.passed here
                c.if-way-eq0.false (omega arith) is down (subst (λ n. Went le es used i c.args.from n c.loop-steps.way.passed) c.loop-steps.invariant.1 w.0),
            still_over o es used here.prev i h c.if-way-eq0.false high down,
          ),
    )

pub returns-clause-walked : goal.returns-clause-walked
returns-clause-walked g c = λ s u.
    let le = g.H.Height.not_higher in
    let es = c.args.self.now.entries.now in
    let used = c.args.self.now.used in
    let n = length_used es used c.args.self.now.linked.0 in
    let w = c.loop-steps.invariant.3 s u in (
      w.0,
      stops_none le es used c.loop-steps.way.link c.args.height c.args.self.now.linked.0 w.1
          (λ d. omega (arith, w.0.ranks d, weighs_few (not_past le (height_at es d) c.args.from) (in_use es used), n)),
    )
