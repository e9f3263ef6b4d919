use Rattle.std.proofs.Common.{◌≤◌, max}
use Rattle.alteration.specs.Mending.{Mended}
use Rattle.alteration.proofs.Mendings.{InRows}
use Rattle.alteration.proofs.mend.mend_rows.Given as goal

abbrev pub invariant-loop-y : goal.invariant-loop-y
invariant-loop-y g l = record {
  below : l.y ≤ max l.part.top l.part.bottom;
  mended : Mended g.H.Height.not_higher l.old l.new (InRows l.part l.y) l.initial.records l.records;
}
