-- Two grids of heights, maybe of different types, whose cells compare alike, and what they then have in common.
use Rattle.std.specs.Prelude.{◌≡◌, ℕ, ◌*◌, ◌<◌, Bool, List, length, Some, Option, ◌≢◌, slice_set}
use Rattle.std.specs.List.{slice_get}
use Rattle.grid.specs.declared.Place.{Place}
use Rattle.grid.specs.declared.Higher.{Higher}
use Rattle.grid.specs.Terrain.{Terrain, Inside, reading_index, height_at}
use Rattle.grid.specs.Window.{window_size, is_not_higher, count_at, share_at}
use Rattle.grid.specs.Alike.{Alike}
use Rattle.grid.specs.Nearest.{Nearest}
use Rattle.pairs.specs.Pairs.{level_pairs, total_count}

-- the window of a place has the same number of cells in both grids, and its count and its share are the same
pub record SameWindow {X Y : Type 0} (le : X → X → Bool) (le' : Y → Y → Bool) (t : Terrain X) (t' : Terrain Y) (r : ℕ) (p : Place) : Type 0 where
  pub same_size : window_size t r p ≡ window_size t' r p
  pub same_count : count_at le t r p ≡ count_at le' t' r p
  pub same_share : share_at le t r p ≡ share_at le' t' r p

-- the law of the windows: in grids that are alike each cell has the same window, count and share
abbrev pub CountsAgree : {X Y : Type 0} → (X → X → Bool) → (Y → Y → Bool) → Type 0
CountsAgree {X} {Y} le le' = (t : Terrain X) (t' : Terrain Y) → Alike le le' t t' → (r : ℕ) (p : Place) → Inside t p → SameWindow le le' t t' r p

-- the law of the nearest higher cell: from each cell of grids that are alike a search finds the same in both
abbrev pub NearestAgree : {X Y : Type 0} → (X → X → Bool) → (Y → Y → Bool) → Type 0
NearestAgree {X} {Y} le le' = (t : Terrain X) (t' : Terrain Y) → Alike le le' t t' → (p : Place) → Inside t p → (a b : Option Higher) → Nearest le t p a → Nearest le' t' p b → a ≡ b

-- the sum of the counts and the number of level pairs are the same in both grids
pub record SameTotals {X Y : Type 0} (le : X → X → Bool) (le' : Y → Y → Bool) (t : Terrain X) (t' : Terrain Y) (r : ℕ) : Type 0 where
  pub same_total : total_count le t r ≡ total_count le' t' r
  pub same_level : level_pairs le t r ≡ level_pairs le' t' r

-- the law of the totals: grids that are alike have the same totals at each radius
abbrev pub TotalsAgree : {X Y : Type 0} → (X → X → Bool) → (Y → Y → Bool) → Type 0
TotalsAgree {X} {Y} le le' = (t : Terrain X) (t' : Terrain Y) → Alike le le' t t' → (r : ℕ) → SameTotals le le' t t' r

-- the grid with another height at a place
abbrev pub altered : {X : Type 0} → Terrain X → Place → X → Terrain X
altered t p h = record { width = t.width; rows = t.rows; heights = slice_set t.heights (reading_index t.width p) h }

-- two heights compare alike with all cells but the one at p, each with those of its own grid, and with themselves
pub record FitsAlike {X Y : Type 0} (le : X → X → Bool) (le' : Y → Y → Bool) (t : Terrain X) (t' : Terrain Y) (p : Place) (h : X) (h' : Y) : Type 0 where
  pub below : (q : Place) → Inside t q → (q ≢ p) → is_not_higher le (Some h) (height_at t q) ≡ is_not_higher le' (Some h') (height_at t' q)
  pub above : (q : Place) → Inside t q → (q ≢ p) → is_not_higher le (height_at t q) (Some h) ≡ is_not_higher le' (height_at t' q) (Some h')
  pub itself : le h h ≡ le' h' h'

-- the law of one altered cell: grids that are alike stay so where new heights at one cell compare alike with the others
abbrev pub AlikeAltered : {X Y : Type 0} → (X → X → Bool) → (Y → Y → Bool) → Type 0
AlikeAltered {X} {Y} le le' = (t : Terrain X) (t' : Terrain Y) → Alike le le' t t' → (p : Place) → Inside t p → (h : X) (h' : Y) → FitsAlike le le' t t' p h h' → Alike le le' (altered t p h) (altered t' p h')

-- any two elements of a list compare as those at the same indices of the other list do
abbrev pub ListsAlike : {X Y : Type 0} → (X → X → Bool) → (Y → Y → Bool) → List X → List Y → Type 0
ListsAlike le le' xs ys = (i j : ℕ) → i < length xs → j < length xs → is_not_higher le (slice_get xs i) (slice_get xs j) ≡ is_not_higher le' (slice_get ys i) (slice_get ys j)

-- the law of opened grids: two lists of heights that compare alike, each with one height for each cell, give grids that are alike
abbrev pub AlikeOpened : {X Y : Type 0} → (X → X → Bool) → (Y → Y → Bool) → Type 0
AlikeOpened {X} {Y} le le' =
    (width rows : ℕ) (xs : List X) (ys : List Y) → length xs ≡ width * rows → length ys ≡ width * rows → ListsAlike le le' xs ys
    → Alike le le' (record { width = width; rows = rows; heights = xs }) (record { width = width; rows = rows; heights = ys })
