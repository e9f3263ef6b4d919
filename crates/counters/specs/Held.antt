-- The heights that a counter holds: a list of which neither the order matters nor which of several level heights is meant.
use Rattle.std.specs.Prelude.{◌≡◌, ℕ, ◌+◌, Bool, true, false, cond, not, ◌&&◌, List, [], ◌∷◌}
use Rattle.heights.specs.Order.{level}
pub use Rattle.heights.specs.Tally.{tally}

-- a test that does not tell level heights apart
abbrev pub Blind : {X : Type 0} → (X → X → Bool) → (X → Bool) → Type 0
Blind {X} le p = (a b : X) → le a b ≡ true → le b a ≡ true → p a ≡ p b

-- the same heights in any order, level ones not told apart: no blind test counts them differently
pub record Same {X : Type 0} (le : X → X → Bool) (xs ys : List X) : Type 0 where
  pub tallies : (p : X → Bool) → Blind le p → tally p xs ≡ tally p ys

-- how many heights of a list are not higher than h
abbrev pub up_to : {X : Type 0} → (X → X → Bool) → List X → X → ℕ
up_to le xs h = tally (λ x. le x h) xs

-- how many heights of a list are level with h
abbrev pub level_with : {X : Type 0} → (X → X → Bool) → List X → X → ℕ
level_with le xs h = tally (λ x. level le x h) xs

-- whether a list has a height level with h
abbrev pub has_level : {X : Type 0} → (X → X → Bool) → List X → X → Bool
has_level le [] h = false
has_level le (x ∷ xs) h = cond (level le x h) true (has_level le xs h)

-- how many distinct heights of a list pass a test; level heights count as one
abbrev pub distinct : {X : Type 0} → (X → X → Bool) → (X → Bool) → List X → ℕ
distinct le p [] = 0
distinct le p (x ∷ xs) = cond (has_level le xs x) 0 (cond (p x) 1 0) + distinct le p xs

-- the height x lies above h
abbrev pub above : {X : Type 0} → (X → X → Bool) → X → X → Bool
above le h x = not (le x h)

-- the height x lies above the lower of a and b and not above the higher
abbrev pub between : {X : Type 0} → (X → X → Bool) → X → X → X → Bool
between le a b x = cond (le a b) (above le a x && le x b) (above le b x && le x a)
