use Rattle.std.proofs.Common.{◌≡◌, Some, sym, subst, arith}
use Rattle.counters.specs.Held.{Same}
use Rattle.grid.specs.Terrain.{height_at}
use Rattle.sweep.specs.Inner.{terrain, Turned}
use Rattle.sweep.specs.Walk.{band_top, columns_heights, taken_before, put_before}
use Rattle.sweep.proofs.Cells.{same_terrain}
use Rattle.sweep.proofs.Rows.{progress_start, progress_places, progress_more, progress_end}
use Rattle.sweep.proofs.row.sweep_band.Goals as goal

pub loop-x-init : goal.loop-x-init
loop-x-init g c =
    let b = c.args.band in
    record {
      sound = c.begin.ensures.sound;
      progress = progress_start g.H.Height.not_higher (terrain b c.args.records.now) b.radius b.y c.args.records.now (g.C.Counter.view c.args.counter.now) c.height_at-first.result c.height_at-asked.result (g.C.Counter.view c.begin.new.self) c.begin.ensures.begins;
    }

pub take_turn-requires-clause-places : goal.take_turn-requires-clause-places
take_turn-requires-clause-places g c =
    let b = c.args.band in
    let p = c.loop-x.invariant.progress in
    let kept = progress_places g.H.Height.not_higher (terrain b c.args.records.now) b.radius b.y c.loop-x.x c.args.records.now c.loop-x.records (g.C.Counter.view c.args.counter.now) (g.C.Counter.view c.loop-x.counter) c.height_at-first.result c.height_at-asked.result (g.C.Counter.view c.begin.new.self) c.begin.ensures.begins p in
    omega (arith, kept, c.requires.places)

pub take_turn-requires-clause-held : goal.take_turn-requires-clause-held
take_turn-requires-clause-held g c =
    let b = c.args.band in
    let p = c.loop-x.invariant.progress in
    subst (λ t. Same g.H.Height.not_higher (g.C.Counter.view c.loop-x.counter).held (columns_heights t b.radius b.y (taken_before b.radius c.loop-x.x) (put_before b.width b.radius c.loop-x.x)))
    (sym (same_terrain b.width b.rows c.args.records.now c.loop-x.records p.heights)) p.held

pub loop-x-preserved : goal.loop-x-preserved
loop-x-preserved g c =
    let le = g.H.Height.not_higher in
    let b = c.args.band in
    let p = c.loop-x.invariant.progress in
    let u = g.C.Counter.view c.loop-x.counter in
    let v = g.C.Counter.view c.take_turn.new.counter in
    let turned = subst (λ t. Turned le t b.radius b.y c.loop-x.x c.loop-x.records c.take_turn.new.records u v)
    (same_terrain b.width b.rows c.args.records.now c.loop-x.records p.heights) c.take_turn.ensures.turned in
    record {
      sound = c.take_turn.ensures.sound;
      progress = progress_more le (terrain b c.args.records.now) b.radius b.y c.loop-x.x c.args.records.now c.loop-x.records c.take_turn.new.records (g.C.Counter.view c.begin.new.self) u v p turned;
    }

pub returns-clause-swept : goal.returns-clause-swept
returns-clause-swept g c =
    let b = c.args.band in
    let t = terrain b c.args.records.now in
    let first_is : height_at t (record { x = 0; y = band_top b.radius b.y }) ≡ Some c.height_at-first.result = rw c.top.ensures at c.height_at-first.ensures in
    progress_end g.H.Height.not_higher t b.radius b.y c.loop-x.x c.args.records.now c.loop-x.records (g.C.Counter.view c.args.counter.now) (g.C.Counter.view c.loop-x.counter)
    c.height_at-first.result c.height_at-asked.result (g.C.Counter.view c.begin.new.self) c.mileage.result
    b.some_columns b.row (omega arith) c.begin.ensures.begins first_is c.height_at-asked.ensures c.mileage.ensures c.loop-x.invariant.progress
