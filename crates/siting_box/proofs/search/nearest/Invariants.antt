use Rattle.grid.specs.Terrain.{heights_of}
use Rattle.siting_box.proofs.Searches.{SoFar}
use Rattle.siting_box.proofs.search.nearest.Given as goal

abbrev pub invariant-loop-index : goal.invariant-loop-index
invariant-loop-index g l = SoFar g.H.Height.not_higher (heights_of l.records) l.own l.plan.width l.from l.index l.best
