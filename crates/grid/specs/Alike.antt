-- Grids that rank alike.
use Rattle.std.specs.Prelude.{◌≡◌, ◌*◌, Bool, length}
use Rattle.grid.specs.declared.Place.{Place}
use Rattle.grid.specs.Terrain.{Terrain, Inside, height_at}
use Rattle.grid.specs.Window.{is_not_higher}

-- the grid has a height for each of its cells, and no more
abbrev pub AllHeights : {X : Type 0} → Terrain X → Type 0
AllHeights t = length t.heights ≡ t.width * t.rows

-- two grids of equal sizes, of heights of any two kinds, whose cells compare alike: of any two places the one is not higher
-- than the other in both grids or in neither
pub record Alike {X Y : Type 0} (le : X → X → Bool) (le' : Y → Y → Bool) (t : Terrain X) (t' : Terrain Y) : Type 0 where
  pub width : t.width ≡ t'.width
  pub rows : t.rows ≡ t'.rows
  pub all : AllHeights t
  pub all' : AllHeights t'
  pub compare : (p q : Place) → Inside t p → Inside t q → is_not_higher le (height_at t p) (height_at t q) ≡ is_not_higher le' (height_at t' p) (height_at t' q)
