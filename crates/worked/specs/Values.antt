-- A small plan worked by hand: 3 columns, 2 rows, radius 1, whole metres; row 0 is 5 7 7, row 1 is 3 5 9.
use Rattle.std.specs.Prelude.{◌≡◌, ℕ, [], ◌∷◌, map, ℤ, pos, Some, None, int_le}
use Rattle.grid.specs.declared.Place.{Place}
use Rattle.grid.specs.Terrain.{Terrain, cells}
use Rattle.grid.specs.Window.{count_at}
use Rattle.grid.specs.Nearest.{Nearest}
use Rattle.pairs.specs.Pairs.{pairs_in_reach, level_pairs, total_count}
use Rattle.ceiling.specs.Roughness.{roughness, FingerSwept}

-- its heights
abbrev pub hill : Terrain ℤ
hill = record { width = 3; rows = 2; heights = pos 5 ∷ (pos 7 ∷ (pos 7 ∷ (pos 3 ∷ (pos 5 ∷ (pos 9 ∷ []))))) }

-- the cell in column x of row y
abbrev pub cell : (x y : ℕ) → Place
cell x y = record { x = x; y = y }

-- what the definitions say of it
pub record WorkedValues : Type 0 where
  -- the counts, in reading order
  pub counts : map (count_at int_le hill 1) (cells 3 2) ≡ 3 ∷ (5 ∷ (3 ∷ (1 ∷ (3 ∷ (4 ∷ [])))))
  -- the steps of a finger list over row 0 and over row 1
  pub first_row : (steps : ℕ) → FingerSwept int_le hill 1 0 steps → steps ≡ 4
  pub second_row : (steps : ℕ) → FingerSwept int_le hill 1 1 steps → steps ≡ 6
  -- the roughness
  pub rough : roughness int_le hill ≡ 7
  -- the nearest higher cell of (1, 0) is (2, 1) at squared distance 2, and (2, 1) has none
  pub from_side : Nearest int_le hill (cell 1 0) (Some (record { place = cell 2 1; distance = 2 }))
  pub from_top : Nearest int_le hill (cell 2 1) None
  -- 11 pairs of cells are in reach of each other, 2 of them level; all counts together are 6 + 11 + 2
  pub pairs : pairs_in_reach hill 1 ≡ 11
  pub pairs_level : level_pairs int_le hill 1 ≡ 2
  pub total : total_count int_le hill 1 ≡ 19
