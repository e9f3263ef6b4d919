use Rattle.std.proofs.Common.{map, sum, ap, ◌∙◌, rules, arith, ◌≡◌, Some}
use Rattle.siting_box.proofs.Totals.{tells_total}
use Rattle.siting_box.proofs.boxes.SitingBox.total.Goals as goal

pub returns-clause-answer : goal.returns-clause-answer
returns-clause-answer g c =
    let held : c.args.self.now.plan ≡ Some c.in_ok-plan.plan = search rules in
    tells_total g.met.H.Height.ordered c.args.self.now.plan c.in_ok-plan.plan c.args.self.now.records.now c.sum_counts.result held c.args.self.now.fitted (omega arith) (c.sum_counts.ensures ∙ ap (λ rs. sum (map (λ r. r.count) rs)) c.cells.ensures)
