use Rattle.std.proofs.Common.{◌≡◌, false, sym, ap, ◌∙◌, arith}
use Rattle.std.proofs.lemmas.List.{get_or_default}
use Rattle.finger_list.specs.declared.entry.Entry.{Entry}
use Rattle.finger_list.specs.Entries.{height_at}
use Rattle.finger_list.proofs.Growth.{grown_bump, grown_new, number_small}
use Rattle.finger_list.proofs.change.add.Goals as goal
use Rattle.finger_list.proofs.change.add.Goals.{else-from-ne0-via-then-from-ne0+else-is_not_higher, else-from-ne0-via-else-from-ne0}

pub returns-then-is_not_higher : goal.returns-then-is_not_higher
returns-then-is_not_higher g c =
    let es = c.args.entries.now in
    let used = c.args.used in
    let a = c.args.from in
    let le = g.H.Height.not_higher in
    let e = c.index-entries-from-then-is_not_higher-2.result in
    let d = c.index-entries-from-then-is_not_higher.result in
    grown_bump g.met.H.Height.ordered es used a c.args.height e d c.requires.linked (omega arith) (omega arith)
    (omega (arith, number_small es used a d c.requires.linked.0 (omega arith) (omega arith)))
    (ap (λ (x : Entry g.row.H.Denot). le c.args.height x.height) (get_or_default es a e c.index-entries-from.result (omega arith)) ∙ sym c.if-is_not_higher.ensures)

pub returns : goal.returns
returns g c =
    let es = c.args.entries.now in
    let le = g.H.Height.not_higher in
    let new : (d : Entry g.row.H.Denot) → (c.args.from ≡ 0 → ⊥) → le c.args.height (height_at es d c.args.from) ≡ false
    = λ d nz. elim c.else-from-ne0.branch [
      | else-from-ne0-via-then-from-ne0+else-is_not_higher w ↦
          ap (λ (x : Entry g.row.H.Denot). le c.args.height x.height) (get_or_default es c.args.from d w.index-entries-from.result (omega arith))
          ∙ sym w.is_not_higher.ensures ∙ w.if-is_not_higher.false
      | else-from-ne0-via-else-from-ne0 w ↦ absurd (nz (omega (arith, w.if-from-ne0.false)))
    ] in
    grown_new g.met.H.Height.ordered es c.insert.new.entries c.args.used c.args.from c.args.height c.requires.linked (omega arith) (omega arith)
    c.insert.ensures.linked c.insert.ensures.inserted new
