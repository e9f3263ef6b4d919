use Rattle.std.proofs.Common.{◌+◌, ◌*◌, ◌<◌, length, rules}
use Rattle.sweep.proofs.Cells.{index_inside, height_of_record}
use Rattle.sweep.proofs.band.Strip.height_at.Goals as goal

pub offset_bounds-self-y : goal.offset_bounds-self-y
offset_bounds-self-y g c =
    let strip = c.args.self.now in
    let inside : c.args.y * strip.band.width + c.args.x < length strip.records.now = index_inside strip.band.width strip.band.rows c.args.x c.args.y _ strip.whole c.requires.0 c.requires.1 in
    search rules

pub returns : goal.returns
returns g c =
    let strip = c.args.self.now in
    height_of_record strip.band.width strip.band.rows strip.records.now c.args.x c.args.y _ c.requires.0
    (index_inside strip.band.width strip.band.rows c.args.x c.args.y _ strip.whole c.requires.0 c.requires.1)
