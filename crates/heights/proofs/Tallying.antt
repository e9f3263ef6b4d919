-- Counting the elements of a list.
use Rattle.std.proofs.Common.{◌≡◌, ◌+◌, ◌≤◌, Bool, true, List, [], ◌∷◌, ◌++◌, length, refl, arith}
use Rattle.std.proofs.lemmas.Bool.Decides.{nat_tests}
use Rattle.heights.specs.Tally.{tally}

-- the tally of two lists in a row is the sum of theirs
pub tally_append : {X : Type 0} (p : X → Bool) (xs ys : List X) → tally p (xs ++ ys) ≡ tally p xs + tally p ys
tally_append p [] ys = omega arith
tally_append p (x ∷ xs) ys = omega (arith, tally_append p xs ys)

-- a test that always passes counts the whole list
pub tally_always : {X : Type 0} (xs : List X) → tally (λ _. true) xs ≡ length xs
tally_always [] = refl
tally_always (x ∷ xs) = omega (arith, tally_always xs)

-- a tally is at most the length
pub tally_le_length : {X : Type 0} (p : X → Bool) (xs : List X) → tally p xs ≤ length xs
tally_le_length p [] = omega arith
tally_le_length p (x ∷ xs) = grind (arith, nat_tests, tally_le_length p xs)
