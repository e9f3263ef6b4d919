use Rattle.std.proofs.Common.{◌≡◌, map, take, drop, ◌++◌}
use Rattle.alteration.specs.Mending.{mended}
use Rattle.alteration.proofs.mend.mend_row.Given as goal

abbrev pub invariant-loop-cell : goal.invariant-loop-cell
invariant-loop-cell g l = l.cell-items ≡ map (mended g.H.Height.not_higher l.old l.new) (take l.cell-index l.fn.cells) ++ drop l.cell-index l.fn.cells
