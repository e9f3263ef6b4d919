use Rattle.std.proofs.Common.{◌<◌, take, refl, arith}
use Rattle.std.proofs.lemmas.List.{length-take-le}
use Rattle.shift_array.specs.Places.{Stands}
use Rattle.shift_array.proofs.Ordered.{found, missing}
use Rattle.shift_array.proofs.Shrinking.{take_level, take_entry}
use Rattle.shift_array.proofs.change.remove.Goals as goal

pub returns-in_err-at : goal.returns-in_err-at
returns-in_err-at g c =
    rw c.from_residual.ensures
    (refl, missing g.met.H.Height.ordered c.args.height (take c.args.used c.args.entries.now) c.find_place.result c.ok.result c.ok.ensures.value c.in_err-at.was c.find_place.ensures)

pub returns-then-entries-at-gt1 : goal.returns-then-entries-at-gt1
returns-then-entries-at-gt1 g c =
    let es = c.args.entries.now in
    let used = c.args.used in
    let at = c.in_ok-at.at in
    let s : Stands g.H.Height.not_higher c.args.height (take used es) at = found _ c.args.height (take used es) c.find_place.result c.ok.result at c.ok.ensures.value c.in_ok-at.was c.find_place.ensures in
    let lt : at < used = omega (arith, length-take-le used es (omega arith), s.inside) in (
      omega arith,
      take_level g.met.H.Height.ordered es used at c.index-entries-at-then-entries-at-gt1-2.result c.index-entries-at-then-entries-at-gt1.result c.index-entries-at.result c.args.height lt s c.if-entries-at-gt1.true,
    )

pub returns : goal.returns
returns g c =
    let es = c.args.entries.now in
    let used = c.args.used in
    let at = c.in_ok-at.at in
    let s : Stands g.H.Height.not_higher c.args.height (take used es) at = found _ c.args.height (take used es) c.find_place.result c.ok.result at c.ok.ensures.value c.in_ok-at.was c.find_place.ensures in
    let lt : at < used = omega (arith, length-take-le used es (omega arith), s.inside) in (
      omega arith,
      take_entry g.met.H.Height.ordered es _ used at c.index-entries-at.result c.args.height (omega arith) lt s c.requires.positive c.if-entries-at-gt1.false c.remove_at.ensures,
    )
