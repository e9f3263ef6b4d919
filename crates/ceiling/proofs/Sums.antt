-- Sums over ranges and over the cells of a grid, and sums whose numbers count at few places.
use Rattle.std.proofs.Common.{◌≡◌, ℕ, zero, suc, ◌+◌, ◌-◌, ◌*◌, ◌<◌, ◌≤◌, min, Bool, true, false, cond, leb, List, map, sum_by, refl, ap, ◌∙◌, mul-le-mul_right, mul_comm, mul-add, arith}
use Rattle.std.specs.List.{range_with_len, flat_map}
use Rattle.std.proofs.lemmas.List.Sums.{sum_by-cons, sum_by-append}
use Rattle.std.proofs.lemmas.Bool.{leb-true, leb-false}
use Rattle.grid.specs.declared.Place.{Place}
use Rattle.grid.specs.Terrain.{cells}
use Rattle.sweep.proofs.Totals.{total, total_ext, total_none, total_split, total_last, total_swap}

-- a sum of smaller numbers
pub total_le : (f g : ℕ → ℕ) (a n : ℕ) → ((i : ℕ) → a ≤ i → i < a + n → f i ≤ g i) → total f a n ≤ total g a n
total_le f g a zero e = omega arith
total_le f g a (suc n) e = omega (arith, e a (omega arith) (omega arith), total_le f g (a + 1) n (λ i p q. e i (omega arith) (omega arith)))

-- a sum of multiples
pub total_times : (f : ℕ → ℕ) (k a n : ℕ) → total (λ i. k * f i) a n ≡ k * total f a n
total_times f k a zero = omega arith
total_times f k a (suc n) = omega (arith, total_times f k (a + 1) n, mul-add k (f a) (total f (a + 1) n))

-- the first numbers of a sum
pub total_front : (f : ℕ → ℕ) (k n : ℕ) → k ≤ n → total f 0 k ≤ total f 0 n
total_front f k n l =
    let e : n ≡ k + (n - k) = omega arith in
    omega (arith, ap (total f 0) e, total_split f 0 k (n - k))

-- a sum whose last number is 0
pub total_but_last : (f g : ℕ → ℕ) (n : ℕ) → ((i : ℕ) → i + 1 < n → f i ≡ g i) → ((i : ℕ) → i + 1 ≡ n → f i ≡ 0) → total f 0 n ≡ total g 0 (n - 1)
total_but_last f g zero same none = refl
total_but_last f g (suc n) same none =
    let z : suc n - 1 ≡ n = omega arith in
    let i : 0 + n ≡ n = omega arith in
    omega (arith, total_last f 0 n, ap f i, none n (omega arith), total_ext f g 0 n (λ j p q. same j (omega arith)), ap (total g 0) z)

-- ---- sums over lists

-- the sum over a range
pub sum_counting : (f : ℕ → ℕ) (a n : ℕ) → sum_by f (range_with_len a n) ≡ total f a n
sum_counting f a zero = refl
sum_counting f a (suc n) = sum_by-cons f a (range_with_len (a + 1) n) ∙ ap (λ k. f a + k) (sum_counting f (a + 1) n)

-- the sum over what a range is mapped to
pub sum_map_counting : {A : Type 0} (f : A → ℕ) (g : ℕ → A) (a n : ℕ) → sum_by f (map g (range_with_len a n)) ≡ total (λ x. f (g x)) a n
sum_map_counting f g a zero = refl
sum_map_counting f g a (suc n) = sum_by-cons f (g a) (map g (range_with_len (a + 1) n)) ∙ ap (λ k. f (g a) + k) (sum_map_counting f g (a + 1) n)

-- the sum over lists joined over a range
pub sum_joined : {A : Type 0} (f : A → ℕ) (g : ℕ → List A) (a n : ℕ) → sum_by f (flat_map g (range_with_len a n)) ≡ total (λ x. sum_by f (g x)) a n
sum_joined f g a zero = refl
sum_joined f g a (suc n) = sum_by-append f (g a) (flat_map g (range_with_len (a + 1) n)) ∙ ap (λ k. sum_by f (g a) + k) (sum_joined f g (a + 1) n)

-- the sum over the cells of a grid, row by row
pub sum_cells : (f : Place → ℕ) (width rows : ℕ) → sum_by f (cells width rows) ≡ total (λ y. total (λ x. f (record { x = x; y = y })) 0 width) 0 rows
sum_cells f width rows =
    sum_joined f (λ y. map (λ x. record { x = x; y = y }) (range_with_len 0 width)) 0 rows
    ∙ total_ext (λ y. sum_by f (map (λ x. record { x = x; y = y }) (range_with_len 0 width))) (λ y. total (λ x. f (record { x = x; y = y })) 0 width) 0 rows (λ y p q. sum_map_counting f (λ x. record { x = x; y = y }) 0 width)

-- ---- how many of the first numbers pass a test that only numbers from lo to just before lo + k pass

few_one : (q : ℕ → Bool) (lo k a : ℕ) (rest : ℕ) (b : Bool) → q a ≡ b → (q a ≡ true → (lo ≤ a) × (a < lo + k)) → rest ≤ lo + k - (a + 1) → cond b 1 0 + rest ≤ (lo + k) - a
few_one q lo k a rest true e f i = omega (arith, f e)
few_one q lo k a rest false e f i = omega arith

few_low : (q : ℕ → Bool) (lo k a n : ℕ) → ((y : ℕ) → y < a + n → q y ≡ true → (lo ≤ y) × (y < lo + k)) → total (λ y. cond (q y) 1 0) a n ≤ (lo + k) - a
few_low q lo k a zero f = omega arith
few_low q lo k a (suc n) f = few_one q lo k a (total (λ y. cond (q y) 1 0) (a + 1) n) (q a) refl (f a (omega arith)) (few_low q lo k (a + 1) n (λ y l. f y (omega arith)))

not_yet : (q : ℕ → Bool) (lo k a : ℕ) (b : Bool) → q a ≡ b → (q a ≡ true → (lo ≤ a) × (a < lo + k)) → a < lo → ◌≡◌ {A = ℕ} (cond b 1 0) 0
not_yet q lo k a true e f l = absurd (let z = f e in omega arith)
not_yet q lo k a false e f l = refl

few_none : (c : ℕ → ℕ) (n m : ℕ) → n ≤ m → total c (0 + m) (n - m) ≡ 0
few_none c n m l = let e : n - m ≡ 0 = omega arith in rw e

few_cases : (lo k n all low high : ℕ) → all ≡ low + high → low ≡ 0 → high ≤ lo + k - (0 + min lo n) → (n ≤ lo → high ≡ 0) → (b : Bool) → leb n lo ≡ b → all ≤ k
few_cases lo k n all low high e z t none true b = omega (arith, none (leb-true n lo b))
few_cases lo k n all low high e z t none false b = omega (arith, leb-false n lo b)

-- they are at most k
pub few : (q : ℕ → Bool) (lo k n : ℕ) → ((y : ℕ) → y < n → q y ≡ true → (lo ≤ y) × (y < lo + k)) → total (λ y. cond (q y) 1 0) 0 n ≤ k
few q lo k n f =
    let c : ℕ → ℕ = λ y. cond (q y) 1 0 in
    let m = min lo n in
    let e : n ≡ m + (n - m) = omega arith in
    let s = total_split c 0 m (n - m) in
    let z = total_none c 0 m (λ i p l. not_yet q lo k i (q i) refl (f i (omega arith)) (omega arith)) in
    let h = ap (total c 0) e in
    let t = few_low q lo k (0 + m) (n - m) (λ y l. f y (omega arith)) in
    few_cases lo k n (total c 0 n) (total c 0 m) (total c (0 + m) (n - m)) (h ∙ s) z t (λ l. few_none c n m (omega arith)) (leb n lo) refl

-- a number that counts only where a test passes
pick_step : (b : Bool) (g : ℕ) → cond b g 0 ≡ g * cond b 1 0
pick_step true g = omega arith
pick_step false g = omega arith

-- a sum over y and j of what counts where q y j: each j counts for at most k of the y
pub few_times : (q : ℕ → ℕ → Bool) (g : ℕ → ℕ) (k n m : ℕ) → ((j : ℕ) → total (λ y. cond (q y j) 1 0) 0 n ≤ k)
    → total (λ y. total (λ j. cond (q y j) (g j) 0) 0 m) 0 n ≤ k * total g 0 m
few_times q g k n m f =
    let swap = total_swap (λ y j. cond (q y j) (g j) 0) 0 n 0 m in
    let each = total_le (λ j. total (λ y. cond (q y j) (g j) 0) 0 n) (λ j. k * g j) 0 m
    (λ j p l.
    let e1 = total_ext (λ y. cond (q y j) (g j) 0) (λ y. g j * cond (q y j) 1 0) 0 n (λ y u v. pick_step (q y j) (g j)) in
    let e2 = total_times (λ y. cond (q y j) 1 0) (g j) 0 n in
    omega (arith, e1, e2, mul-le-mul_right {m = total (λ y. cond (q y j) 1 0) 0 n} {n = k} (g j) (f j), mul_comm (g j) (total (λ y. cond (q y j) 1 0) 0 n))) in
    omega (arith, swap, each, total_times g k 0 m)
