use Rattle.std.proofs.Common.{◌-◌}
use Rattle.sweep.specs.Inner.{terrain}
use Rattle.sweep.specs.Walk.{column_heights}
use Rattle.sweep.proofs.Runs.{Changed}
use Rattle.sweep.proofs.column.change_columns.Given as goal

abbrev pub invariant-loop-x : goal.invariant-loop-x
invariant-loop-x g l = record {
  sound : g.C.Counter.sound l.counter;
  ran : Changed g.H.Height.not_higher l.change (column_heights (terrain l.strip.band l.strip.records.now) l.strip.band.radius l.strip.band.y) l.start (l.x - l.start) (g.C.Counter.view l.initial.counter) (g.C.Counter.view l.counter);
}
