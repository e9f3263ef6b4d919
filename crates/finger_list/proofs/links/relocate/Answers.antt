use Rattle.std.proofs.Common.{sym, refl, ap, ◌∙◌, subst, arith}
use Rattle.finger_list.specs.declared.entry.Entry.{Entry}
use Rattle.finger_list.specs.Writing.{Relocated, with_prev}
use Rattle.finger_list.proofs.Unlinking.{relocated_by}
use Rattle.finger_list.proofs.links.relocate.Goals as goal

pub returns : goal.returns
returns g c =
    let es = c.args.entries.now in
    let e = c.index-entries-from.result in
    let f : Entry g.row.H.Denot = record { height = e.height; number = e.number; next = c.renamed-next.result; prev = c.renamed-prev.result } in
    subst (λ us. Relocated es us c.args.from c.args.to) (sym (c.set_prev.ensures ∙ ap (λ us. with_prev us c.renamed-next.result c.args.to) c.set_next.ensures))
    (relocated_by es c.args.from c.args.to e f c.requires.half (omega arith) (omega arith) c.index-entries-from.is refl refl c.renamed-next.ensures c.renamed-prev.ensures)
