use Rattle.std.proofs.Common.{◌≡◌, ◌<◌, false, length, get_or, sym, refl, ap, ◌∙◌, arith}
use Rattle.std.proofs.lemmas.List.{get_or_default}
use Rattle.finger_list.specs.declared.entry.Entry.{Entry}
use Rattle.finger_list.specs.Entries.{height_at}
use Rattle.finger_list.proofs.Shrinking.{none_there, shrunk_less, shrunk_out}
use Rattle.finger_list.proofs.change.remove.Goals as goal
use Rattle.finger_list.proofs.change.remove.Goals.{then-at-eq0-via-then-at-eq0, then-at-eq0-via-else-at-eq0+then-not-is_not_higher}

pub returns-then-at-eq0 : goal.returns-then-at-eq0
returns-then-at-eq0 g c =
    let es = c.args.entries.now in
    let a = c.args.at in
    let h = c.args.height in
    let le = g.H.Height.not_higher in
    let low : (d : Entry g.row.H.Denot) → (a ≡ 0 → ⊥) → le h (height_at es d a) ≡ false
    = λ d nz. elim c.then-at-eq0.branch [
      | then-at-eq0-via-then-at-eq0 w ↦ absurd (nz w.if-at-eq0.true)
      | then-at-eq0-via-else-at-eq0+then-not-is_not_higher w ↦
          ap (λ (x : Entry g.row.H.Denot). le h x.height) (get_or_default es a d w.index-entries-at.result (omega arith))
          ∙ sym w.is_not_higher.ensures ∙ w.if-not-is_not_higher.true
    ] in
    (refl, λ s at. none_there g.met.H.Height.ordered es c.args.used a h c.requires.linked.0 low at)

pub returns-then-entries-at-gt1 : goal.returns-then-entries-at-gt1
returns-then-entries-at-gt1 g c =
    let es = c.args.entries.now in
    let a = c.args.at in
    let le = g.H.Height.not_higher in
    let e = c.index-entries-at-then-entries-at-gt1-2.result in
    let d = c.index-entries-at-then-entries-at-gt1.result in
    let two = ap (λ (x : Entry g.row.H.Denot). x.number) (get_or_default es a d c.index-entries-at-2.result (omega arith)) in
    shrunk_less g.met.H.Height.ordered es c.args.used a c.args.height e d c.requires.linked (omega arith) (omega arith) (omega (arith, two)) c.requires.positive
    (ap (λ (x : Entry g.row.H.Denot). le c.args.height x.height) (get_or_default es a e c.index-entries-at.result (omega arith)) ∙ sym c.if-not-is_not_higher.ensures)

pub returns : goal.returns
returns g c =
    let es = c.args.entries.now in
    let used = c.args.used in
    let a = c.args.at in
    let le = g.H.Height.not_higher in
    let o = c.index-entries-at-3.result in
    let e = get_or es a o in
    let lt : a < length es = omega arith in
    let is : (d : Entry g.row.H.Denot) → e ≡ get_or es a d = λ d. get_or_default es a o d lt in
    shrunk_out g.met.H.Height.ordered es c.remove_entry.new.entries used a c.args.height e c.renamed-link.result c.requires.linked (omega arith) (omega arith) (is e)
    (omega (arith, ap (λ (x : Entry g.row.H.Denot). x.number) (is c.index-entries-at-2.result))) c.requires.positive
    (ap (λ (x : Entry g.row.H.Denot). le c.args.height x.height) (is c.index-entries-at.result) ∙ sym c.if-not-is_not_higher.ensures)
    c.renamed-link.ensures c.remove_entry.ensures
