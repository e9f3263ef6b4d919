use Rattle.std.proofs.Common.{◌*◌, ◌++◌, drop, Some, Ok, rules}
use Rattle.heights.specs.Meaning.{storage}
use Rattle.siting_box.specs.Boxes.{box_contents}
use Rattle.siting_box.specs.Contents.{contents}
use Rattle.siting_box.proofs.Counting.{open_keeps}
use Rattle.siting_box.proofs.boxes.SitingBox.open.Goals as goal

pub returns-clause-counts : goal.returns-clause-counts
returns-clause-counts g c =
    open_keeps g.H.Height.not_higher (storage g.H.HeightKind.wide g.H.HeightKind.reads) c.args.width c.args.rows c.args.radius c.args.bytes.now (box_contents c.args.self.now) (contents (Some (record { width = c.args.width; rows = c.args.rows; radius = c.args.radius; swept = 0 })) (c.fill.new.records ++ drop (c.args.width * c.args.rows) c.args.self.now.records.now)) (Ok tt) (search rules)
