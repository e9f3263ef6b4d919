-- The nearest cell that is strictly higher than a cell.
use Rattle.std.specs.Prelude.{◌≡◌, ℕ, ◌+◌, ◌-◌, ◌*◌, ◌≤◌, Bool, true, false, not, Some, None, Option}
use Rattle.grid.specs.declared.Place.{Place}
use Rattle.grid.specs.declared.Higher.{Higher}
use Rattle.grid.specs.Terrain.{Terrain, Inside, reading_index, height_at}

-- how far two numbers are apart
abbrev pub apart : ℕ → ℕ → ℕ
apart a b = (a - b) + (b - a)

-- columns squared plus rows squared
abbrev pub squared_distance : Place → Place → ℕ
squared_distance p q = apart p.x q.x * apart p.x q.x + apart p.y q.y * apart p.y q.y

-- both heights are there, and the first is strictly higher than the second
abbrev pub is_higher : {X : Type 0} → (X → X → Bool) → Option X → Option X → Bool
is_higher le None b = false
is_higher le (Some a) None = false
is_higher le (Some a) (Some b) = not (le a b)

-- the cell lies in the grid and is higher than p, its squared distance is told, no higher cell is nearer, and none as near
-- comes earlier in reading order
pub record NearestHigher {X : Type 0} (le : X → X → Bool) (t : Terrain X) (p : Place) (found : Higher) : Type 0 where
  pub inside : Inside t found.place
  pub higher : is_higher le (height_at t found.place) (height_at t p) ≡ true
  pub distance_is : found.distance ≡ squared_distance p found.place
  pub nearest : (q : Place) → Inside t q → is_higher le (height_at t q) (height_at t p) ≡ true → found.distance ≤ squared_distance p q
  pub first : (q : Place) → Inside t q → is_higher le (height_at t q) (height_at t p) ≡ true → squared_distance p q ≡ found.distance → reading_index t.width found.place ≤ reading_index t.width q

-- what a search from p finds; nothing where no cell of the grid is higher
abbrev pub Nearest : {X : Type 0} → (X → X → Bool) → Terrain X → Place → Option Higher → Type 0
Nearest le t p None = (q : Place) → Inside t q → is_higher le (height_at t q) (height_at t p) ≡ false
Nearest le t p (Some found) = NearestHigher le t p found
