use Rattle.std.proofs.Common.{ℕ, ◌*◌, ◌++◌, drop, Some, Ok, rules}
use Rattle.siting_box.specs.Boxes.{box_contents}
use Rattle.siting_box.specs.Contents.{contents}
use Rattle.siting_box.specs.Calls.{with_row}
use Rattle.siting_box.proofs.Counting.{sweep_keeps}
use Rattle.siting_box.proofs.boxes.SitingBox.sweep.Goals as goal

pub returns-clause-counts : goal.returns-clause-counts
returns-clause-counts g c =
    let plan = c.in_ok-plan.plan in
    sweep_keeps {C = ℕ} g.H.Height.not_higher (box_contents c.args.self.now) (contents (Some (with_row plan)) (c.sweep_row.new.records ++ drop (plan.width * plan.rows) c.args.self.now.records.now)) (g.C.Counter.view c.args.counter.now) (g.C.Counter.view c.sweep_row.new.counter) (Ok c.in_ok-mileage.mileage) (search rules) c.args.self.now.fitted
