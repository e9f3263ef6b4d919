use Rattle.std.proofs.Common.{◌≡◌, ◌+◌, set, sym, refl, ap, ◌∙◌, subst, arith}
use Rattle.finger_list.specs.declared.entry.Entry.{Entry}
use Rattle.finger_list.specs.Entries.{next_at}
use Rattle.finger_list.specs.Writing.{Inserted, with_next, with_prev}
use Rattle.finger_list.proofs.Rewriting.{inserted_by, inserted_linked}
use Rattle.finger_list.proofs.links.insert.Goals as goal

pub returns : goal.returns
returns g c =
    let es = c.args.entries.now in
    let n = c.args.used + 1 in
    let o = c.index-entries-after.result in
    let k = next_at es o c.args.after in
    let f : Entry g.row.H.Denot = record { height = c.args.height; number = 1; next = k; prev = c.args.after } in
    let e : with_prev (with_next (set es n f) c.args.after n) k n ≡ c.set_prev.new.entries
    = sym (c.set_prev.ensures ∙ ap (λ us. with_prev us k n) c.set_next.ensures) in
    let w = inserted_by es c.args.used c.args.after c.args.height o f c.requires.linked (omega arith) (omega arith) refl refl refl refl in
    let w₂ = subst (λ us. Inserted es us c.args.used c.args.after c.args.height) e w in
    record {
      linked = inserted_linked es c.set_prev.new.entries c.args.used c.args.after c.args.height c.requires.linked (omega arith) (omega arith) (omega arith) w₂;
      inserted = w₂;
    }
