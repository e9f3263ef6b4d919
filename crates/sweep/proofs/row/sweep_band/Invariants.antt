use Rattle.sweep.specs.Inner.{terrain}
use Rattle.sweep.proofs.Rows.{Progress}
use Rattle.sweep.proofs.row.sweep_band.Given as goal

abbrev pub invariant-loop-x : goal.invariant-loop-x
invariant-loop-x g l = record {
  sound : g.C.Counter.sound l.counter;
  progress : Progress g.H.Height.not_higher (terrain l.band l.initial.records) l.band.radius l.band.y l.x l.initial.records l.records (g.C.Counter.view l.initial.counter) (g.C.Counter.view l.counter);
}
