-- What an order of heights has to be, and when heights are level.
use Rattle.std.specs.Prelude.{◌≡◌, Bool, true, ◌&&◌, ◌⊎◌}

-- of any two heights at least one is not higher than the other, and "not higher than" is transitive
pub record Preorder {X : Type 0} (le : X → X → Bool) : Type 0 where
  pub total : (a b : X) → (le a b ≡ true) ⊎ (le b a ≡ true)
  pub transitive : (a b c : X) → le a b ≡ true → le b c ≡ true → le a c ≡ true

-- two heights are level: neither is higher than the other
abbrev pub level : {X : Type 0} → (X → X → Bool) → X → X → Bool
level le a b = le a b && le b a
