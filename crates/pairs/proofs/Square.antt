-- Every element of a list against every element: each with itself, and each pair both ways. What follows for counts under any
-- reach test that is symmetric and reflexive, and any test "not higher" that is total on the list.
use Rattle.std.proofs.Common.{◌≡◌, ℕ, ◌+◌, Bool, true, false, cond, ◌&&◌, ◌⊎◌, List, [], ◌∷◌, map, length, sum_by, sym, refl, ⊎_elim, arith}
use Rattle.std.specs.List.{AllByRecursion as All}
use Rattle.std.proofs.ByRecursion.{All-weaker}
use Rattle.std.proofs.lemmas.List.Sums.{sum_by-cons, sum_by-append}
use Rattle.std.proofs.lemmas.Bool.{both_ways}
use Rattle.heights.specs.Tally.{tally}
use Rattle.heights.proofs.Tallying.{tally_always}
use Rattle.pairs.specs.Pairs.{pairs_of}
use Rattle.pairs.proofs.Sums.{sum_same, sum_ext, sum_add, sum_map, tally_sum, all_pairs}

-- the sum over all of a list against all of it: the diagonal, and each pair both ways
pub square_sum : {X : Type 0} (f : X → X → ℕ) (xs : List X)
    → sum_by (λ p. sum_by (f p) xs) xs ≡ sum_by (λ p. f p p) xs + sum_by (λ (pair : X × X). f pair.0 pair.1 + f pair.1 pair.0) (pairs_of xs)
square_sum f [] = refl
square_sum {X} f (x ∷ xs) =
    let both : X × X → ℕ = λ pair. f pair.0 pair.1 + f pair.1 pair.0 in
    let rows = sum_by-cons (λ p. sum_by (f p) (x ∷ xs)) x xs in
    let first = sum_by-cons (f x) x xs in
    let columns = sum_ext (λ p. sum_by (f p) (x ∷ xs)) (λ p. f p x + sum_by (f p) xs) xs (λ p. sum_by-cons (f p) x xs) in
    let column = sum_add (λ p. f p x) (λ p. sum_by (f p) xs) xs in
    let diagonal = sum_by-cons (λ p. f p p) x xs in
    let pairs = sum_by-append both (map (λ q. (x, q)) xs) (pairs_of xs) in
    let new = sum_map both (λ q. (x, q)) xs in
    let split = sum_add (λ q. f x q) (λ q. f q x) xs in
    omega (arith, rows, first, columns, column, diagonal, pairs, new, split, square_sum f xs)

-- a pair is counted at neither of its elements where it is not in reach, else at one, and at both where it is level
pair_counts : (near far up down : Bool) → near ≡ far → (up ≡ true) ⊎ (down ≡ true)
    → ◌≡◌ {A = ℕ} (cond (near && down) 1 0 + cond (far && up) 1 0) (cond near 1 0 + cond (near && (up && down)) 1 0)
pair_counts true true true true e o = refl
pair_counts true true true false e o = refl
pair_counts true true false true e o = refl
pair_counts true true false false e o = absurd (⊎_elim (both_ways false refl) (both_ways false refl) o)
pair_counts true false up down e o = absurd (both_ways false refl (sym e))
pair_counts false true up down e o = absurd (both_ways false refl e)
pair_counts false false up down e o = refl

-- an element in its own reach that is not higher than itself is counted once
self_counts : (near up : Bool) → near ≡ true → (up ≡ true) ⊎ (up ≡ true) → ◌≡◌ {A = ℕ} (cond (near && up) 1 0) 1
self_counts true true e o = refl
self_counts true false e o = absurd (⊎_elim (both_ways false refl) (both_ways false refl) o)
self_counts false up e o = absurd (both_ways false refl e)

module _ {X : Type 0} (inReach not_higher : X → X → Bool) where
  -- how many elements of a list in the reach of p are not higher than p
  abbrev pub count_for : List X → X → ℕ
  count_for ps p = tally (λ q. inReach p q && not_higher q p) ps

  -- the pairs in reach
  abbrev pub reached : X × X → Bool
  reached pair = inReach pair.0 pair.1

  -- the level pairs in reach
  abbrev pub reached_level : X × X → Bool
  reached_level pair = inReach pair.0 pair.1 && (not_higher pair.0 pair.1 && not_higher pair.1 pair.0)

  -- the counts of a list add up to its length, its pairs in reach and its level pairs in reach
  pub counts_over_list : (P : X → Type 0)
      → ((p q : X) → inReach p q ≡ inReach q p)
      → ((p : X) → inReach p p ≡ true)
      → ((p q : X) → P p → P q → (not_higher p q ≡ true) ⊎ (not_higher q p ≡ true))
      → (ps : List X) → All P ps
      → sum_by (count_for ps) ps ≡ length ps + tally reached (pairs_of ps) + tally reached_level (pairs_of ps)
  counts_over_list P symmetric reflexive total ps all =
      let f : X → X → ℕ = λ p q. cond (inReach p q && not_higher q p) 1 0 in
      let both : X × X → ℕ = λ pair. f pair.0 pair.1 + f pair.1 pair.0 in
      let one : X × X → ℕ = λ pair. cond (reached pair) 1 0 in
      let two : X × X → ℕ = λ pair. cond (reached_level pair) 1 0 in
      let counts = sum_ext (count_for ps) (λ p. sum_by (f p) ps) ps (λ p. tally_sum (λ q. inReach p q && not_higher q p) ps) in
      let square = square_sum f ps in
      let diagonal = sum_same (λ p. f p p) (λ _. 1) ps (All-weaker P (λ p. f p p ≡ 1) (λ p h. self_counts (inReach p p) (not_higher p p) (reflexive p) (total p p h h)) ps all) in
      let ones = tally_sum (λ (_ : X). true) ps in
      let long = tally_always ps in
      let pairs = sum_same both (λ pair. one pair + two pair) (pairs_of ps)
      (All-weaker (λ (pair : X × X). P pair.0 × P pair.1) (λ pair. both pair ≡ one pair + two pair)
      (λ pair h. pair_counts (inReach pair.0 pair.1) (inReach pair.1 pair.0) (not_higher pair.0 pair.1) (not_higher pair.1 pair.0) (symmetric pair.0 pair.1) (total pair.0 pair.1 h.0 h.1))
      (pairs_of ps) (all_pairs P ps all)) in
      let parts = sum_add one two (pairs_of ps) in
      let t1 = tally_sum reached (pairs_of ps) in
      let t2 = tally_sum reached_level (pairs_of ps) in
      omega (arith, counts, square, diagonal, ones, long, pairs, parts, t1, t2)
