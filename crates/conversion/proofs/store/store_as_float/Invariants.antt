use Rattle.std.proofs.Common.{◌≡◌, ℕ, ◌*◌, ◌<◌, ◌≤◌, get_or}
use Rattle.conversion.specs.Metres.{IsMetres}
use Rattle.conversion.specs.Converting.{metres_at, pattern_at}
use Rattle.conversion.proofs.store.store_as_float.Given as goal

abbrev pub invariant-loop-index : goal.invariant-loop-index
invariant-loop-index l =
    ((i : ℕ) → i < l.index → IsMetres (pattern_at l.out i) (metres_at l.whole i))
    × ((k : ℕ) → l.index * 4 ≤ k → get_or l.out k 0 ≡ get_or l.initial.out k 0)
