use Rattle.std.proofs.Common.{◌+◌, ◌*◌, ◌<◌, length, rules}
use Rattle.sweep.specs.Inner.{terrain}
use Rattle.sweep.proofs.Cells.{index_inside, recorded}
use Rattle.sweep.proofs.Turns.{turn_takes_ready, turn_puts_ready, turn_done}
use Rattle.sweep.proofs.turn.take_turn.Goals as goal

pub change_columns-requires-clause-ready : goal.change_columns-requires-clause-ready
change_columns-requires-clause-ready g c =
    let b = c.args.band in
    turn_takes_ready g.H.Height.not_higher (terrain b c.args.records.now) b.radius b.y c.args.x
    c.taken_before-taken.result c.near-reach.result.start c.put_before-put.result c.near-reach.result.end c.taken_before-taken.ensures c.near-reach.ensures.start c.put_before-put.ensures c.near-reach.ensures.end
    (g.C.Counter.view c.args.counter.now) c.requires.inside b.row c.requires.places c.requires.held

pub change_columns-requires-2-clause-ready : goal.change_columns-requires-2-clause-ready
change_columns-requires-2-clause-ready g c =
    let b = c.args.band in
    turn_puts_ready g.H.Height.not_higher (terrain b c.args.records.now) b.radius b.y c.args.x
    c.taken_before-taken.result c.near-reach.result.start c.put_before-put.result c.near-reach.result.end c.taken_before-taken.ensures c.near-reach.ensures.start c.put_before-put.ensures c.near-reach.ensures.end
    (g.C.Counter.view c.args.counter.now) c.requires.inside b.row c.requires.places c.requires.held
    (g.C.Counter.view c.change_columns.new.counter) c.change_columns.ensures.ran

pub offset_bounds-records-band : goal.offset_bounds-records-band
offset_bounds-records-band g c =
    let lt : c.args.band.y * c.args.band.width + c.args.x < length c.args.records.now = index_inside c.args.band.width c.args.band.rows c.args.x c.args.band.y _ c.requires.whole c.requires.inside c.args.band.row in
    search rules

pub returns-clause-turned : goal.returns-clause-turned
returns-clause-turned g c =
    let b = c.args.band in
    let sound = c.change_columns-2.ensures.sound in
    turn_done g.H.Height.not_higher (terrain b c.args.records.now) b.radius b.y c.args.x
    c.taken_before-taken.result c.near-reach.result.start c.put_before-put.result c.near-reach.result.end c.taken_before-taken.ensures c.near-reach.ensures.start c.put_before-put.ensures c.near-reach.ensures.end
    (g.C.Counter.view c.args.counter.now) c.requires.inside b.row c.requires.places c.requires.held
    (g.C.Counter.view c.change_columns.new.counter) c.change_columns.ensures.ran
    (g.C.Counter.view c.change_columns-2.new.counter) c.change_columns-2.ensures.ran
    c.height_at.result c.height_at.ensures c.ask-answer.result.steps (g.C.Counter.view c.ask-answer.new.self) (c.ask-answer.ensures.done sound)
    g.met.H.Height.ordered c.ask-answer.result.count (c.ask-answer.ensures.count sound)
    c.args.records.now _
    (recorded c.args.records.now (b.y * b.width + c.args.x) c.ask-answer.result.count c.index-records-band.result (index_inside b.width b.rows c.args.x b.y _ c.requires.whole c.requires.inside b.row))
