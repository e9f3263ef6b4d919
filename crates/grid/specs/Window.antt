-- The window of a cell and its count.
use Rattle.std.specs.Prelude.{ℕ, ◌+◌, ◌*◌, ◌/◌, Bool, false, cond, ◌&&◌, List, [], Some, None, Option, nat_le}
use Rattle.std.specs.List.{flat_map}
use Rattle.std.specs.Option.{option_to_list}
use Rattle.heights.specs.Tally.{tally}
use Rattle.grid.specs.declared.Place.{Place}
use Rattle.grid.specs.Terrain.{Terrain, cells, height_at}

-- two numbers are at most r apart
abbrev pub near : ℕ → ℕ → ℕ → Bool
near r a b = nat_le a (b + r) && nat_le b (a + r)

-- two places lie in each other's windows: at most r columns and at most r rows away
abbrev pub reaches : ℕ → Place → Place → Bool
reaches r p q = near r p.x q.x && near r p.y q.y

-- how many cells of the grid the window of a place has
abbrev pub window_size : {X : Type 0} → Terrain X → ℕ → Place → ℕ
window_size t r p = tally (reaches r p) (cells t.width t.rows)

-- both heights are there, and the first is not higher than the second
abbrev pub is_not_higher : {X : Type 0} → (X → X → Bool) → Option X → Option X → Bool
is_not_higher le None b = false
is_not_higher le (Some a) None = false
is_not_higher le (Some a) (Some b) = le a b

-- the count of a cell: how many cells of its window are not higher than it
abbrev pub count_at : {X : Type 0} → (X → X → Bool) → Terrain X → ℕ → Place → ℕ
count_at le t r p = tally (λ q. reaches r p q && is_not_higher le (height_at t q) (height_at t p)) (cells t.width t.rows)

-- the heights of the cells of a window, in reading order
abbrev pub window_heights : {X : Type 0} → Terrain X → ℕ → Place → List X
window_heights t r p = flat_map (λ q. cond (reaches r p q) (option_to_list (height_at t q)) []) (cells t.width t.rows)

-- a count as a share of the full window of radius r: thousandths of its (2r + 1)² cells, rounded down
abbrev pub share_of : (count r : ℕ) → ℕ
share_of count r = 1000 * count / ((2 * r + 1) * (2 * r + 1))

-- the share of a cell
abbrev pub share_at : {X : Type 0} → (X → X → Bool) → Terrain X → ℕ → Place → ℕ
share_at le t r p = share_of (count_at le t r p) r
