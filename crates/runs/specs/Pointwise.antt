-- Lists that are related element by element.
use Rattle.std.specs.Prelude.{List, [], ◌∷◌}

-- equally long lists whose elements at the same place are in a relation
abbrev pub Pointwise : {X Y : Type 0} → (X → Y → Type 0) → List X → List Y → Type 0
Pointwise P [] [] = Unit {0}
Pointwise P [] (y ∷ ys) = ⊥
Pointwise P (x ∷ xs) [] = ⊥
Pointwise P (x ∷ xs) (y ∷ ys) = P x y × Pointwise P xs ys
