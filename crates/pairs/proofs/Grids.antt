-- The cells of a grid: how many they are, their heights, and the laws of their counts.
use Rattle.std.proofs.Common.{◌≡◌, ℕ, zero, suc, ◌+◌, ◌*◌, ◌<◌, ◌≤◌, Bool, true, false, cond, ◌&&◌, leb, ◌⊎◌, List, [], ◌∷◌, map, length, is_some, Some, None, sum_by, Option, sym, refl, ap, ◌∙◌, arith}
use Rattle.std.specs.List.{range_with_len, flat_map, AllByRecursion as All, slice_get}
use Rattle.std.proofs.lemmas.Nat.{mul-add-lt}
use Rattle.std.proofs.lemmas.List.FromFn.{length-range_with_len}
use Rattle.std.proofs.ByRecursion.{All-append, All-map, sum_by_le}
use Rattle.std.proofs.lemmas.Bool.{le-leb, lt-ltb, both_ways}
use Rattle.heights.specs.Order.{Preorder}
use Rattle.heights.specs.Tally.{tally}
use Rattle.heights.proofs.Tallying.{tally_always, tally_le_length}
use Rattle.grid.specs.declared.Place.{Place}
use Rattle.grid.specs.Terrain.{Terrain, cells, reading_index, height_at}
use Rattle.grid.specs.Window.{near, reaches, is_not_higher, count_at}
use Rattle.grid.proofs.Sizes.{cells_tally}
use Rattle.pairs.specs.Pairs.{cell_pairs, are_level, CountsAddUp, CountsBounded, PairsInOrder}
use Rattle.pairs.proofs.Sums.{Ordered, ordered_append, ordered_pairs}
use Rattle.pairs.proofs.Square.{counts_over_list}

-- a grid has as many cells as columns times rows
pub length_cells : (width rows : ℕ) → length (cells width rows) ≡ width * rows
length_cells width rows =
    let numbers : (n : ℕ) → tally (λ (_ : ℕ). true) (range_with_len 0 n) ≡ n = λ n. tally_always (range_with_len 0 n) ∙ length-range_with_len 0 n in
    sym (tally_always (cells width rows))
    ∙ (cells_tally (λ _. true) (λ _. true) width rows
    ∙ (ap (λ n. n * tally (λ (_ : ℕ). true) (range_with_len 0 rows)) (numbers width) ∙ ap (λ n. width * n) (numbers rows)))

-- what holds of each number of a range
pub all_counting : (P : ℕ → Type 0) (a n : ℕ) → ((i : ℕ) → a ≤ i → i < a + n → P i) → All P (range_with_len a n)
all_counting P a zero e = tt
all_counting P a (suc n) e = (e a (omega arith) (omega arith), all_counting P (a + 1) n (λ i p q. e i (omega arith) (omega arith)))

-- what holds of each element of lists that are joined
pub all_joined : {A X : Type 0} (P : X → Type 0) (f : A → List X) (parts : List A) → All (λ a. All P (f a)) parts → All P (flat_map f parts)
all_joined P f [] e = tt
all_joined P f (a ∷ parts) e = All-append P (f a) (flat_map f parts) e.0 (all_joined P f parts e.1)

-- the cells of row y
abbrev pub row_cells : (width y : ℕ) → List Place
row_cells width y = map (λ x. record { x = x; y = y }) (range_with_len 0 width)

-- what holds of each place of a row's columns holds of each cell of the row
pub all_row : (P : Place → Type 0) (width y : ℕ) → ((x : ℕ) → x < width → P (record { x = x; y = y })) → All P (row_cells width y)
all_row P width y e =
    let place : ℕ → Place = λ x. record { x = x; y = y } in
    All-map P place (range_with_len 0 width) (all_counting (λ x. P (place x)) 0 width (λ x _ left. e x (omega arith)))

-- what holds of each place of n rows from row a holds of each of their cells
pub all_rows : (P : Place → Type 0) (width a n : ℕ) → ((x y : ℕ) → x < width → a ≤ y → y < a + n → P (record { x = x; y = y })) → All P (flat_map (row_cells width) (range_with_len a n))
all_rows P width a n e =
    all_joined P (row_cells width) (range_with_len a n) (all_counting (λ y. All P (row_cells width y)) a n (λ y from to. all_row P width y (λ x left. e x y left from to)))

-- what holds of each place inside holds of each cell
pub all_cells : (P : Place → Type 0) (width rows : ℕ) → ((x y : ℕ) → x < width → y < rows → P (record { x = x; y = y })) → All P (cells width rows)
all_cells P width rows e = all_rows P width 0 rows (λ x y left _ low. e x y left (omega arith))

-- there is an element at each index of a list
nth_there : {X : Type 0} (xs : List X) (i : ℕ) → i < length xs → is_some (slice_get xs i) ≡ true
nth_there [] i lt = absurd (omega arith)
nth_there (x ∷ xs) zero lt = refl
nth_there (x ∷ xs) (suc i) lt = nth_there xs i (omega arith)

-- each cell of a grid with all its heights has one
pub height_there : {X : Type 0} (t : Terrain X) → length t.heights ≡ t.width * t.rows → (p : Place) → p.x < t.width → p.y < t.rows → is_some (height_at t p) ≡ true
height_there t whole p inx iny =
    ap (λ b. is_some (cond b (slice_get t.heights (reading_index t.width p)) None)) (lt-ltb p.x t.width inx)
    ∙ nth_there t.heights (reading_index t.width p) (omega (arith, whole, mul-add-lt p.y t.width p.x t.rows iny inx))

-- of two heights that are there one is not higher than the other
total_there : {X : Type 0} {le : X → X → Bool} → Preorder le → (a b : Option X) → is_some a ≡ true → is_some b ≡ true → (is_not_higher le a b ≡ true) ⊎ (is_not_higher le b a ≡ true)
total_there o None b ha hb = absurd (both_ways false refl ha)
total_there o (Some a) None ha hb = absurd (both_ways false refl hb)
total_there o (Some a) (Some b) ha hb = o.total a b

-- the law of the counts under any reach test that is symmetric and reflexive
pub counts_over_cells : {X : Type 0} {le : X → X → Bool} → Preorder le → (inReach : Place → Place → Bool)
    → ((p q : Place) → inReach p q ≡ inReach q p)
    → ((p : Place) → inReach p p ≡ true)
    → (t : Terrain X) → length t.heights ≡ t.width * t.rows
    → sum_by (λ p. tally (λ q. inReach p q && is_not_higher le (height_at t q) (height_at t p)) (cells t.width t.rows)) (cells t.width t.rows)
    ≡ t.width * t.rows
    + tally (λ (pair : Place × Place). inReach pair.0 pair.1) (cell_pairs t.width t.rows)
    + tally (λ (pair : Place × Place). inReach pair.0 pair.1 && are_level le (height_at t pair.0) (height_at t pair.1)) (cell_pairs t.width t.rows)
counts_over_cells {le = le} o inReach symmetric reflexive t whole =
    let There : Place → Type 0 = λ p. is_some (height_at t p) ≡ true in
    let list = counts_over_list inReach (λ p q. is_not_higher le (height_at t p) (height_at t q)) There symmetric reflexive
    (λ p q hp hq. total_there o (height_at t p) (height_at t q) hp hq)
    (cells t.width t.rows) (all_cells There t.width t.rows (λ x y inx iny. height_there t whole (record { x = x; y = y }) inx iny)) in
    omega (arith, list, length_cells t.width t.rows)

-- "and" in either order
and_swap : (a b : Bool) → (a && b) ≡ (b && a)
and_swap true true = refl
and_swap true false = refl
and_swap false true = refl
and_swap false false = refl

-- nearness goes both ways
pub near_symmetric : (r a b : ℕ) → near r a b ≡ near r b a
near_symmetric r a b = and_swap (leb a (b + r)) (leb b (a + r))

-- every number is near itself
pub near_self : (r a : ℕ) → near r a a ≡ true
near_self r a = let e = le-leb a (a + r) (omega arith) in rw e

-- two places are in each other's windows
pub reaches_symmetric : (r : ℕ) (p q : Place) → reaches r p q ≡ reaches r q p
reaches_symmetric r p q = let e = near_symmetric r p.x q.x in let f = near_symmetric r p.y q.y in cc

-- a place is in its own window
pub reaches_self : (r : ℕ) (p : Place) → reaches r p p ≡ true
reaches_self r p = let e = near_self r p.x in let f = near_self r p.y in cc

-- the law of the counts
pub counts_add_up : {X : Type 0} {le : X → X → Bool} → Preorder le → CountsAddUp le
counts_add_up o t r whole = counts_over_cells o (reaches r) (reaches_symmetric r) (reaches_self r) t whole

-- a count is at most the number of cells
pub count_bounded : {X : Type 0} (le : X → X → Bool) (t : Terrain X) (r : ℕ) (p : Place) → count_at le t r p ≤ t.width * t.rows
count_bounded le t r p =
    omega (arith, tally_le_length (λ q. reaches r p q && is_not_higher le (height_at t q) (height_at t p)) (cells t.width t.rows), length_cells t.width t.rows)

-- what holds everywhere holds of each element
all_everywhere : {X : Type 0} (P : X → Type 0) (xs : List X) → ((x : X) → P x) → All P xs
all_everywhere P [] e = tt
all_everywhere P (x ∷ xs) e = (e x, all_everywhere P xs e)

-- the bounds of the counts
pub counts_bounded : {X : Type 0} (le : X → X → Bool) → CountsBounded le
counts_bounded le =
    record {
      each = count_bounded le;
      together = λ t r. let n = t.width * t.rows in
          let sum = sum_by_le (count_at le t r) n (cells t.width t.rows) (all_everywhere (λ p. count_at le t r p ≤ n) (cells t.width t.rows) (count_bounded le t r)) in
          let long : length (cells t.width t.rows) * n ≡ n * n = ap (λ k. k * n) (length_cells t.width t.rows) in
          omega (arith, sum, long);
    }

-- the cells of a row are in reading order
row_ordered : (width y a n : ℕ) → Ordered (λ p q. reading_index width p < reading_index width q) (map (λ x. record { x = x; y = y }) (range_with_len a n))
row_ordered width y a zero = tt
row_ordered width y a (suc n) =
    let place : ℕ → Place = λ x. record { x = x; y = y } in
    let Later : Place → Type 0 = λ q. reading_index width (place a) < reading_index width q in (
      All-map Later place (range_with_len (a + 1) n) (all_counting (λ x. Later (place x)) (a + 1) n (λ x from to. omega arith)),
      row_ordered width y (a + 1) n,
    )

-- the cells of n rows from row a are in reading order
rows_ordered : (width a n : ℕ) → Ordered (λ p q. reading_index width p < reading_index width q) (flat_map (row_cells width) (range_with_len a n))
rows_ordered width a zero = tt
rows_ordered width a (suc n) =
    let Before : Place → Place → Type 0 = λ p q. reading_index width p < reading_index width q in
    let rest = flat_map (row_cells width) (range_with_len (a + 1) n) in
    ordered_append Before (row_cells width a) rest (row_ordered width a 0 width) (rows_ordered width (a + 1) n)
    (all_row (λ p. All (Before p) rest) width a
    (λ x left. all_rows (Before (record { x = x; y = a })) width (a + 1) n
    (λ z y _ from _. omega (arith, mul-add-lt a width x y (omega arith) left))))

-- the first cell of a pair comes earlier in reading order
pub pairs_in_order : PairsInOrder
pairs_in_order width rows = ordered_pairs (λ p q. reading_index width p < reading_index width q) (cells width rows) (rows_ordered width 0 rows)
