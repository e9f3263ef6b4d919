-- The walk of a row's sweep: the band of the row, the order in which its cells are walked, and the calls of a counter that
-- it makes.
use Rattle.std.specs.Prelude.{ℕ, ◌+◌, ◌-◌, ◌%◌, min, cond, List, ◌++◌, map, ◌==◌}
use Rattle.std.specs.List.{range_with_len, flat_map}
use Rattle.std.specs.Option.{option_to_list}
use Rattle.counters.specs.Calls.{Call, put, take, ask}
use Rattle.grid.specs.declared.Place.{Place}
use Rattle.grid.specs.Terrain.{Terrain, height_at}

-- the first row of the band of row y with radius r: r rows to the north, or the grid's first row
abbrev pub band_top : (r y : ℕ) → ℕ
band_top r y = y - r

-- how many of a grid's rows the band of row y has: it ends r rows to the south, or with the grid's last row
abbrev pub band_rows : (rows r y : ℕ) → ℕ
band_rows rows r y = min rows (y + r + 1) - band_top r y

-- the row of the j-th cell walked of column x, in a band of n rows from row top on: even columns are walked southward, odd
-- ones northward
abbrev pub walked_row : (top n x j : ℕ) → ℕ
walked_row top n x j = cond (x % 2 == 0) (top + j) (top + (n - 1 - j))

-- the j-th cell walked of column x
abbrev pub walked_place : {X : Type 0} → Terrain X → (r y x j : ℕ) → Place
walked_place t r y x j = record { x = x; y = walked_row (band_top r y) (band_rows t.rows r y) x j }

-- the heights of column x of the band, as they are walked
abbrev pub column_heights : {X : Type 0} → Terrain X → (r y x : ℕ) → List X
column_heights t r y x = flat_map (λ j. option_to_list (height_at t (walked_place t r y x j))) (range_with_len 0 (band_rows t.rows r y))

-- the heights of the columns of the band from a to just before b, as they are walked
abbrev pub columns_heights : {X : Type 0} → Terrain X → (r y a b : ℕ) → List X
columns_heights t r y a b = flat_map (column_heights t r y) (range_with_len a (b - a))

-- how many columns were taken before the turn of x: those below x - 1 - r
abbrev pub taken_before : (r x : ℕ) → ℕ
taken_before r x = x - 1 - r

-- how many columns were put before the turn of x: none before the first, later those up to x - 1 + r
abbrev pub put_before : (width r x : ℕ) → ℕ
put_before width r x = cond (x == 0) 0 (min width (x + r))

-- the calls at the turn of x: the columns below x - r that are still held are taken, then the columns up to x + r that were
-- not yet put are put, then the height of (x, y) is asked
abbrev pub turn_calls : {X : Type 0} → Terrain X → (r y x : ℕ) → List (Call X)
turn_calls t r y x =
    map take (columns_heights t r y (taken_before r x) (x - r))
    ++ (map put (columns_heights t r y (put_before t.width r x) (min t.width (x + r + 1)))
    ++ map ask (option_to_list (height_at t (record { x = x; y = y }))))

-- the calls of a row's sweep after begin: the turns of all columns from the west
abbrev pub row_calls : {X : Type 0} → Terrain X → (r y : ℕ) → List (Call X)
row_calls t r y = flat_map (turn_calls t r y) (range_with_len 0 t.width)
