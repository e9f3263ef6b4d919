-- Sums over a list, and what holds of the pairs of a list.
use Rattle.std.proofs.Common.{◌≡◌, ℕ, ◌+◌, Bool, cond, List, [], ◌∷◌, ◌++◌, map, sum_by, refl, arith}
use Rattle.std.specs.List.{AllByRecursion as All}
use Rattle.std.proofs.ByRecursion.{All-append, All-map, All-weaker}
use Rattle.std.proofs.lemmas.List.Sums.{sum_by-cons}
use Rattle.heights.specs.Tally.{tally}
use Rattle.pairs.specs.Pairs.{pairs_of}

-- sums of equal numbers
pub sum_same : {X : Type 0} (f g : X → ℕ) (xs : List X) → All (λ x. f x ≡ g x) xs → sum_by f xs ≡ sum_by g xs
sum_same f g [] e = refl
sum_same f g (x ∷ xs) e = omega (arith, e.0, sum_by-cons f x xs, sum_by-cons g x xs, sum_same f g xs e.1)

-- the same, of numbers that are equal everywhere
pub sum_ext : {X : Type 0} (f g : X → ℕ) (xs : List X) → ((x : X) → f x ≡ g x) → sum_by f xs ≡ sum_by g xs
sum_ext f g [] e = refl
sum_ext f g (x ∷ xs) e = omega (arith, e x, sum_by-cons f x xs, sum_by-cons g x xs, sum_ext f g xs e)

-- a sum of sums of two
pub sum_add : {X : Type 0} (f g : X → ℕ) (xs : List X) → sum_by (λ x. f x + g x) xs ≡ sum_by f xs + sum_by g xs
sum_add f g [] = refl
sum_add f g (x ∷ xs) = omega (arith, sum_by-cons (λ x. f x + g x) x xs, sum_by-cons f x xs, sum_by-cons g x xs, sum_add f g xs)

-- a sum over what a list is mapped to
pub sum_map : {X Y : Type 0} (f : Y → ℕ) (g : X → Y) (xs : List X) → sum_by f (map g xs) ≡ sum_by (λ x. f (g x)) xs
sum_map f g [] = refl
sum_map f g (x ∷ xs) = omega (arith, sum_by-cons f (g x) (map g xs), sum_by-cons (λ x. f (g x)) x xs, sum_map f g xs)

-- a tally is a sum of ones and zeros
pub tally_sum : {X : Type 0} (p : X → Bool) (xs : List X) → tally p xs ≡ sum_by (λ x. cond (p x) 1 0) xs
tally_sum p [] = refl
tally_sum p (x ∷ xs) = omega (arith, sum_by-cons (λ x. cond (p x) 1 0) x xs, tally_sum p xs)

-- what holds of each element holds of both elements of each pair
pub all_pairs : {X : Type 0} (P : X → Type 0) (xs : List X) → All P xs → All (λ (pair : X × X). P pair.0 × P pair.1) (pairs_of xs)
all_pairs P [] a = tt
all_pairs {X} P (x ∷ xs) a =
    let Both : X × X → Type 0 = λ pair. P pair.0 × P pair.1 in
    All-append Both (map (λ q. (x, q)) xs) (pairs_of xs)
    (All-map Both (λ q. (x, q)) xs (All-weaker P (λ q. P x × P q) (λ q b. (a.0, b)) xs a.1))
    (all_pairs P xs a.1)

-- each element of a list stands in a relation to each later one
abbrev pub Ordered : {X : Type 0} → (X → X → Type 0) → List X → Type 0
Ordered R [] = Unit {0}
Ordered R (x ∷ xs) = All (R x) xs × Ordered R xs

-- two ordered lists in a row, where each element of the first stands so to each of the second
pub ordered_append : {X : Type 0} (R : X → X → Type 0) (xs ys : List X) → Ordered R xs → Ordered R ys → All (λ x. All (R x) ys) xs → Ordered R (xs ++ ys)
ordered_append R [] ys o u a = u
ordered_append R (x ∷ xs) ys o u a = (All-append (R x) xs ys o.0 a.0, ordered_append R xs ys o.1 u a.1)

-- the elements of a pair of an ordered list stand in the relation
pub ordered_pairs : {X : Type 0} (R : X → X → Type 0) (xs : List X) → Ordered R xs → All (λ (pair : X × X). R pair.0 pair.1) (pairs_of xs)
ordered_pairs R [] o = tt
ordered_pairs {X} R (x ∷ xs) o =
    let Stand : X × X → Type 0 = λ pair. R pair.0 pair.1 in
    All-append Stand (map (λ q. (x, q)) xs) (pairs_of xs) (All-map Stand (λ q. (x, q)) xs o.0) (ordered_pairs R xs o.1)
