use Rattle.alteration.specs.Mending.{not_above}
use Rattle.alteration.proofs.Rows.{Counted}
use Rattle.alteration.proofs.count.count_rows.Given as goal

abbrev pub invariant-loop-row : goal.invariant-loop-row
invariant-loop-row g l = Counted (not_above g.H.Height.not_higher l.records l.height) l.part l.records l.row-iterator l.count
