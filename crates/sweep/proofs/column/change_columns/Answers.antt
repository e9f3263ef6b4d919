use Rattle.std.proofs.Common.{◌≡◌, ◌+◌, ◌-◌, subst, refl, arith}
use Rattle.sweep.specs.Inner.{terrain}
use Rattle.counters.specs.Calls.{still}
use Rattle.sweep.specs.Walk.{column_heights}
use Rattle.sweep.proofs.Runs.{Changed, changed_more, ready_next}
use Rattle.sweep.proofs.column.change_columns.Goals as goal

pub loop-x-init : goal.loop-x-init
loop-x-init g c =
    let b = c.args.strip.now.band in
    let none : 0 ≡ c.args.start - c.args.start = omega arith in
    record {
      sound = c.requires.sound;
      ran = subst (λ n. Changed g.H.Height.not_higher c.args.change (column_heights (terrain b c.args.strip.now.records.now) b.radius b.y) c.args.start n (g.C.Counter.view c.args.counter.now) (g.C.Counter.view c.args.counter.now)) none still;
    }

pub change_column-requires-clause-ready : goal.change_column-requires-clause-ready
change_column-requires-clause-ready g c =
    let b = c.args.strip.now.band in
    ready_next c.args.change (column_heights (terrain b c.args.strip.now.records.now) b.radius b.y) c.args.start (c.loop-x.x - c.args.start) (c.args.end - c.args.start) c.loop-x.x _
    (omega arith) (omega arith) refl c.loop-x.invariant.ran c.requires.ready

pub loop-x-preserved : goal.loop-x-preserved
loop-x-preserved g c =
    let b = c.args.strip.now.band in
    record {
      sound = c.change_column.ensures.sound;
      ran = changed_more c.args.change (column_heights (terrain b c.args.strip.now.records.now) b.radius b.y) c.args.start (c.loop-x.x - c.args.start) (c.loop-x.x + 1 - c.args.start) c.loop-x.x _
          (omega arith) (omega arith) refl c.loop-x.invariant.ran c.change_column.ensures.ran;
    }
