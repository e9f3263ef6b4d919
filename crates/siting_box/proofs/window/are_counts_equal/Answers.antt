use Rattle.std.proofs.Common.{Option, List, [], ◌∷◌, map, ap, ◌∙◌, sym, rules}
use Rattle.std.proofs.lemmas.Iterator.{YieldsList-from_slice, YieldsList-from_zip, same_from_all}
use Rattle.std.proofs.lemmas.List.{length-map}
use Rattle.std.proofs.iter.Yields.{fronts}
use Rattle.std.specs.Iterator.{AlwaysYields}
use Rattle.grid.specs.declared.CellRecord.{CellRecord}
use borrow.Author.Tests.{tests}
use Rattle.siting_box.proofs.window.are_counts_equal.Goals as goal

-- items that are read by one function more
read_on : {S A B C : Type 0} (steps : S → Option A → S → Type 0) (v : A → B) (f : B → C) (s : S) (ys : List B) → AlwaysYields steps v s ys → AlwaysYields steps (λ a. f (v a)) s (map f ys)
read_on steps v f s [] h = h
read_on steps v f s (y ∷ ys) h = (h.0, λ x j step. let q = h.1 x j step in (ap f q.0, read_on steps v f j ys q.1))

pub returns-then-left-right : goal.returns-then-left-right
returns-then-left-right g c =
    let own = λ (r : CellRecord g.row.H.Denot). r.count in
    let others = λ (r : CellRecord g.row.K.Denot). r.count in
    let left = c.args.left.now in
    let right = c.args.right.now in
    same_from_all c.all.new.self _ c.all.result (map own left) (map others right) c.all.ensures.ran
    (YieldsList-from_zip {steps = fronts} {others = fronts} {v = λ y. own y.now} {w = λ y. others y.now} (record { runs = read_on fronts (λ y. y.now) own c.zip.result.a left (YieldsList-from_slice {s = c.zip.result.a} left (cc)).runs }) (record { runs = read_on fronts (λ y. y.now) others c.zip.result.b right (YieldsList-from_slice {s = c.zip.result.b} right (cc)).runs }))
    (length-map left own ∙ c.if-left-right.true ∙ sym (length-map right others)) (λ x q k. search (rules, tests)) (λ x q k. search (rules, tests))
