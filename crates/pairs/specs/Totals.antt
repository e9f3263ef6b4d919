-- What all counts of a grid add up to, as a number.
use Rattle.std.specs.Prelude.{ℕ, ◌+◌, ◌*◌, Bool}
use Rattle.grid.specs.Terrain.{Terrain}
use Rattle.pairs.specs.Pairs.{pairs_in_reach, level_pairs}

-- the cells of a grid, plus its pairs in reach, plus its level pairs in reach
abbrev pub cells_and_pairs : {X : Type 0} → (X → X → Bool) → Terrain X → ℕ → ℕ
cells_and_pairs le t r = t.width * t.rows + pairs_in_reach t r + level_pairs le t r
