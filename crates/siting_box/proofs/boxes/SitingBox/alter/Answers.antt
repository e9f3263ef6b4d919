use Rattle.std.proofs.Common.{◌*◌, ◌++◌, drop, Ok, rules}
use Rattle.heights.specs.Meaning.{storage}
use Rattle.siting_box.specs.Boxes.{box_contents}
use Rattle.siting_box.specs.Contents.{contents}
use Rattle.siting_box.proofs.Counting.{alter_keeps}
use Rattle.siting_box.proofs.boxes.SitingBox.alter.Goals as goal

pub returns-clause-counts : goal.returns-clause-counts
returns-clause-counts g c =
    let plan = c.in_ok-plan.plan in
    alter_keeps (storage g.H.HeightKind.wide g.H.HeightKind.reads) g.H.Height.not_higher c.args.at.x c.args.at.y c.args.bytes.now (box_contents c.args.self.now) (contents c.args.self.now.plan (c.alter_cell.new.records ++ drop (plan.width * plan.rows) c.args.self.now.records.now)) (Ok tt) (search rules) c.args.self.now.fitted
