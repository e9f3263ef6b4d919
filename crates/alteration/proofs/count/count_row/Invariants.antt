use Rattle.std.proofs.Common.{◌≡◌, take}
use Rattle.heights.specs.Tally.{tally}
use Rattle.alteration.proofs.count.count_row.Given as goal

abbrev pub invariant-loop-cell : goal.invariant-loop-cell
invariant-loop-cell g l = l.count ≡ tally (λ k. g.H.Height.not_higher k.height l.height) (take l.cell-index l.cells)
