-- The counts of all cells of a grid together, and the pairs of cells in each other's windows.
use Rattle.std.specs.Prelude.{◌≡◌, ℕ, ◌+◌, ◌*◌, ◌<◌, ◌≤◌, Bool, ◌&&◌, List, [], ◌∷◌, ◌++◌, map, length, sum_by, Option}
use Rattle.std.specs.List.{AllByRecursion}
use Rattle.heights.specs.Tally.{tally}
use Rattle.grid.specs.declared.Place.{Place}
use Rattle.grid.specs.Terrain.{Terrain, cells, reading_index, height_at}
use Rattle.grid.specs.Window.{reaches, is_not_higher, count_at}

-- all pairs of an element of a list and a later one: one for any two positions of the list
abbrev pub pairs_of : {X : Type 0} → List X → List (X × X)
pairs_of [] = []
pairs_of (p ∷ ps) = map (λ q. (p, q)) ps ++ pairs_of ps

-- all pairs of cells of a grid of which the first comes earlier in reading order
abbrev pub cell_pairs : (width rows : ℕ) → List (Place × Place)
cell_pairs width rows = pairs_of (cells width rows)

-- how many pairs of cells lie in each other's windows of radius r
abbrev pub pairs_in_reach : {X : Type 0} → Terrain X → ℕ → ℕ
pairs_in_reach t r = tally (λ (pair : Place × Place). reaches r pair.0 pair.1) (cell_pairs t.width t.rows)

-- both heights are there, and neither is higher than the other
abbrev pub are_level : {X : Type 0} → (X → X → Bool) → Option X → Option X → Bool
are_level le a b = is_not_higher le a b && is_not_higher le b a

-- how many pairs of cells lie in each other's windows of radius r and have level heights
abbrev pub level_pairs : {X : Type 0} → (X → X → Bool) → Terrain X → ℕ → ℕ
level_pairs le t r =
    tally (λ (pair : Place × Place). reaches r pair.0 pair.1 && are_level le (height_at t pair.0) (height_at t pair.1)) (cell_pairs t.width t.rows)

-- the sum of the counts of all cells
abbrev pub total_count : {X : Type 0} → (X → X → Bool) → Terrain X → ℕ → ℕ
total_count le t r = sum_by (count_at le t r) (cells t.width t.rows)

-- the law of the counts, which every Preorder keeps: on a grid with all its heights, the counts together count each cell once,
-- for itself, each pair in reach once, for the one of its cells that is not higher, and each level pair in reach once more,
-- for the other
abbrev pub CountsAddUp : {X : Type 0} → (X → X → Bool) → Type 0
CountsAddUp {X} le = (t : Terrain X) (r : ℕ) → length t.heights ≡ t.width * t.rows → total_count le t r ≡ t.width * t.rows + pairs_in_reach t r + level_pairs le t r

-- no count is larger than the grid, and all together are at most its square
pub record CountsBounded {X : Type 0} (le : X → X → Bool) : Type 0 where
  pub each : (t : Terrain X) (r : ℕ) (p : Place) → count_at le t r p ≤ t.width * t.rows
  pub together : (t : Terrain X) (r : ℕ) → total_count le t r ≤ (t.width * t.rows) * (t.width * t.rows)

-- the cells of a pair are different: the first comes earlier in reading order
abbrev pub PairsInOrder : Type 0
PairsInOrder = (width rows : ℕ) → AllByRecursion (λ (pair : Place × Place). reading_index width pair.0 < reading_index width pair.1) (cell_pairs width rows)
