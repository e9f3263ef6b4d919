use Rattle.sweep.specs.Inner.{terrain}
use Rattle.sweep.proofs.Runs.{Changed}
use Rattle.sweep.proofs.Cells.{walked_cell}
use Rattle.sweep.proofs.column.change_column.Given as goal

abbrev pub invariant-loop-j : goal.invariant-loop-j
invariant-loop-j g l = record {
  sound : g.C.Counter.sound l.counter;
  ran : Changed g.H.Height.not_higher l.change (walked_cell (terrain l.strip.band l.strip.records.now) l.strip.band.radius l.strip.band.y l.x) 0 l.j (g.C.Counter.view l.initial.counter) (g.C.Counter.view l.counter);
}
