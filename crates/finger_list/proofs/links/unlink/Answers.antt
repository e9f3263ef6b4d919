use Rattle.std.proofs.Common.{sym, ap, ◌∙◌, subst, arith}
use Rattle.finger_list.specs.Writing.{Unlinked, with_prev}
use Rattle.finger_list.proofs.Unlinking.{unlinked_by}
use Rattle.finger_list.proofs.links.unlink.Goals as goal

pub returns : goal.returns
returns g c =
    let es = c.args.entries.now in
    let e = c.index-entries-at.result in
    subst (λ us. Unlinked es us c.args.at) (sym (c.set_prev.ensures ∙ ap (λ us. with_prev us e.next e.prev) c.set_next.ensures))
    (unlinked_by es c.args.used c.args.at e c.requires.linked (omega arith) (omega arith) c.index-entries-at.is)
