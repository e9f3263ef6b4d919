-- How many cells a window has: the columns at most r away times the rows at most r away.
use Rattle.std.proofs.Common.{◌≡◌, ℕ, zero, suc, ◌+◌, ◌-◌, ◌*◌, ◌<◌, ◌≤◌, min, Bool, true, false, cond, ◌&&◌, leb, List, [], ◌∷◌, ◌++◌, map, sym, refl, ap, ◌∙◌, mul-zero, zero-add, mul-add, add-one, arith}
use Rattle.std.proofs.lemmas.List.FromFn.{map-range_with_len_more}
use Rattle.std.proofs.lemmas.Bool.Decides.{nat_tests}
use Rattle.std.proofs.lemmas.List.{map-id}
use Rattle.std.specs.List.{range_with_len, flat_map}
use Rattle.heights.specs.Tally.{tally}
use Rattle.heights.proofs.Tallying.{tally_append}
use Rattle.grid.specs.declared.Place.{Place}
use Rattle.grid.specs.Terrain.{Terrain, cells}
use Rattle.grid.specs.Window.{near, window_size}

-- counting one number more
pub counting_more : (a n : ℕ) → range_with_len a (n + 1) ≡ range_with_len a n ++ ((a + n) ∷ [])
counting_more a n = sym (map-id _) ∙ map-range_with_len_more (λ k. k) a n (a + n) refl ∙ ap (λ l. l ++ ((a + n) ∷ [])) (map-id _)

-- a test that a fixed test joins
tally_and : {X : Type 0} (b : Bool) (p : X → Bool) (xs : List X) → tally (λ x. p x && b) xs ≡ cond b (tally p xs) 0
tally_and true p [] = refl
tally_and false p [] = refl
tally_and true p (x ∷ xs) = let on = tally_and true p xs in let e : (p x && true) ≡ p x = and_true (p x) in cc
  where
    and_true : (c : Bool) → (c && true) ≡ c
    and_true true = refl
    and_true false = refl
tally_and false p (x ∷ xs) =
    let on = tally_and false p xs in
    let bit : Bool → ℕ = λ c. cond c 1 0 in
    omega (arith, on, ap bit (and_false (p x)))
  where
    and_false : (c : Bool) → (c && false) ≡ false
    and_false true = refl
    and_false false = refl

-- the tally of a list that is made by a function
tally_map : {X Y : Type 0} (f : X → Y) (p : Y → Bool) (xs : List X) → tally p (map f xs) ≡ tally (λ x. p (f x)) xs
tally_map f p [] = refl
tally_map f p (x ∷ xs) = ap (λ n. cond (p (f x)) 1 0 + n) (tally_map f p xs)

-- a row's cells that pass a test of their column and one of their row
row_tally : (f g : ℕ → Bool) (width y : ℕ) → tally (λ (q : Place). f q.x && g q.y) (map (λ x. record { x = x; y = y }) (range_with_len 0 width)) ≡ cond (g y) (tally f (range_with_len 0 width)) 0
row_tally f g width y =
    let place : ℕ → Place = λ x. record { x = x; y = y } in
    tally_map place (λ q. f q.x && g q.y) (range_with_len 0 width) ∙ tally_and (g y) f (range_with_len 0 width)

rows_step : (b : Bool) (n m k : ℕ) → k ≡ n * m → cond b n 0 + k ≡ n * (cond b 1 0 + m)
rows_step true n m k e = omega (arith, mul-add n 1 m)
rows_step false n m k e = omega (arith, mul-add n 0 m)

-- the cells of rows that pass such a test
rows_tally : (f g : ℕ → Bool) (width : ℕ) (ys : List ℕ) → tally (λ (q : Place). f q.x && g q.y) (flat_map (λ y. map (λ x. record { x = x; y = y }) (range_with_len 0 width)) ys) ≡ tally f (range_with_len 0 width) * tally g ys
rows_tally f g width [] = omega (arith, mul-zero (tally f (range_with_len 0 width)))
rows_tally f g width (y ∷ ys) =
    let place : ℕ → ℕ → Place = λ y x. record { x = x; y = y } in
    let test : Place → Bool = λ q. f q.x && g q.y in
    tally_append test (map (place y) (range_with_len 0 width)) (flat_map (λ y. map (place y) (range_with_len 0 width)) ys)
    ∙ ap (λ n. n + tally test (flat_map (λ y. map (place y) (range_with_len 0 width)) ys)) (row_tally f g width y)
    ∙ rows_step (g y) (tally f (range_with_len 0 width)) (tally g ys) _ (rows_tally f g width ys)

-- the cells of a grid that pass a test of their column and one of their row
pub cells_tally : (f g : ℕ → Bool) (width rows : ℕ) → tally (λ (q : Place). f q.x && g q.y) (cells width rows) ≡ tally f (range_with_len 0 width) * tally g (range_with_len 0 rows)
cells_tally f g width rows = rows_tally f g width (range_with_len 0 rows)

-- one number more, by the two tests of nearness
near_step : (r a n s : ℕ) (u v : Bool) → leb a (n + r) ≡ u → leb n (a + r) ≡ v → s ≡ min n (a + r + 1) - (a - r) → s + (cond (u && v) 1 0 + 0) ≡ min (suc n) (a + r + 1) - (a - r)
near_step r a n s true true e f h =
    let low : a ≤ n + r = grind (arith, nat_tests) in
    let high : n ≤ a + r = grind (arith, nat_tests) in
    omega arith
near_step r a n s true false e f h = let high : a + r < n = grind (arith, nat_tests) in omega arith
near_step r a n s false true e f h = let low : n + r < a = grind (arith, nat_tests) in omega arith
near_step r a n s false false e f h = let low : n + r < a = grind (arith, nat_tests) in omega arith

-- the numbers below n that are at most r away from a
pub near_tally : (r a n : ℕ) → tally (near r a) (range_with_len 0 n) ≡ min n (a + r + 1) - (a - r)
near_tally r a zero = omega arith
near_tally r a (suc n) =
    let list : range_with_len 0 (suc n) ≡ range_with_len 0 n ++ (n ∷ []) = ap (range_with_len 0) (sym (add-one n)) ∙ counting_more 0 n ∙ ap (λ k. range_with_len 0 n ++ (k ∷ [])) (zero-add n) in
    ap (tally (near r a)) list
    ∙ tally_append (near r a) (range_with_len 0 n) (n ∷ [])
    ∙ near_step r a n (tally (near r a) (range_with_len 0 n)) (leb a (n + r)) (leb n (a + r)) refl refl (near_tally r a n)

-- the cells of a window: columns times rows
pub window_size_is : {X : Type 0} (t : Terrain X) (r : ℕ) (p : Place) → window_size t r p ≡ (min t.width (p.x + r + 1) - (p.x - r)) * (min t.rows (p.y + r + 1) - (p.y - r))
window_size_is t r p =
    cells_tally (near r p.x) (near r p.y) t.width t.rows
    ∙ ap (λ n. n * tally (near r p.y) (range_with_len 0 t.rows)) (near_tally r p.x t.width)
    ∙ ap (λ n. (min t.width (p.x + r + 1) - (p.x - r)) * n) (near_tally r p.y t.rows)
