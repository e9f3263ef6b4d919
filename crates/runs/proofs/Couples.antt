-- Lists whose elements at the same index are partners.
use Rattle.std.proofs.Common.{◌≡◌, ℕ, zero, suc, Bool, List, [], ◌∷◌, ◌++◌, map, length, set, Some, None, Option, refl, ap, ◌∙◌}
use Rattle.std.specs.Option.{option_map}
use Rattle.std.proofs.lemmas.Option.{slice_get-map}
use Rattle.std.specs.List.{slice_get}
use Rattle.grid.specs.Window.{is_not_higher}
use Rattle.runs.specs.Pointwise.{Pointwise}

-- two partners, or nothing twice
abbrev pub Couple : {X Y : Type 0} → (X → Y → Type 0) → Option X → Option Y → Type 0
Couple P None None = Unit {0}
Couple P None (Some y) = ⊥
Couple P (Some x) None = ⊥
Couple P (Some x) (Some y) = P x y

-- any two elements compare as their partners do
abbrev pub Compares : {X Y : Type 0} → (X → X → Bool) → (Y → Y → Bool) → (X → Y → Type 0) → Type 0
Compares {X} {Y} le le' P = (a b : X) (a' b' : Y) → P a a' → P b b' → le a b ≡ le' a' b'

-- what a function makes of an element of a list
pub nth_map : {A B : Type 0} (f : A → B) (xs : List A) (i : ℕ) (x : A) → slice_get xs i ≡ Some x → slice_get (map f xs) i ≡ Some (f x)
nth_map f xs i x e = slice_get-map f xs i ∙ ap (option_map f) e

module _ {X Y : Type 0} (P : X → Y → Type 0) where
  pub both_length : (xs : List X) (ys : List Y) → Pointwise P xs ys → length xs ≡ length ys
  both_length [] [] b = refl
  both_length [] (y ∷ ys) b = absurd b
  both_length (x ∷ xs) [] b = absurd b
  both_length (x ∷ xs) (y ∷ ys) b = ap suc (both_length xs ys b.1)

  pub both_push : (xs : List X) (ys : List Y) (x : X) (y : Y) → Pointwise P xs ys → P x y → Pointwise P (xs ++ x ∷ []) (ys ++ y ∷ [])
  both_push [] [] x y b p = (p, tt)
  both_push [] (z ∷ ys) x y b p = absurd b
  both_push (z ∷ xs) [] x y b p = absurd b
  both_push (z ∷ xs) (w ∷ ys) x y b p = (b.0, both_push xs ys x y b.1 p)

  pub both_set : (xs : List X) (ys : List Y) (i : ℕ) (x : X) (y : Y) → Pointwise P xs ys → P x y → Pointwise P (set xs i x) (set ys i y)
  both_set [] [] i x y b p = tt
  both_set [] (z ∷ ys) i x y b p = absurd b
  both_set (z ∷ xs) [] i x y b p = absurd b
  both_set (z ∷ xs) (w ∷ ys) zero x y b p = (p, b.1)
  both_set (z ∷ xs) (w ∷ ys) (suc i) x y b p = (b.0, both_set xs ys i x y b.1 p)

  pub both_nth : (xs : List X) (ys : List Y) (i : ℕ) → Pointwise P xs ys → Couple P (slice_get xs i) (slice_get ys i)
  both_nth [] [] i b = tt
  both_nth [] (z ∷ ys) i b = absurd b
  both_nth (z ∷ xs) [] i b = absurd b
  both_nth (z ∷ xs) (w ∷ ys) zero b = b.0
  both_nth (z ∷ xs) (w ∷ ys) (suc i) b = both_nth xs ys i b.1

  -- couples compare alike
  pub couples_compare : (le : X → X → Bool) (le' : Y → Y → Bool) → Compares le le' P → (a b : Option X) (a' b' : Option Y) → Couple P a a' → Couple P b b' → is_not_higher le a b ≡ is_not_higher le' a' b'
  couples_compare le le' iso None b None b' p q = refl
  couples_compare le le' iso None b (Some y) b' p q = absurd p
  couples_compare le le' iso (Some x) b None b' p q = absurd p
  couples_compare le le' iso (Some x) None (Some y) None p q = refl
  couples_compare le le' iso (Some x) None (Some y) (Some w) p q = absurd q
  couples_compare le le' iso (Some x) (Some z) (Some y) None p q = absurd q
  couples_compare le le' iso (Some x) (Some z) (Some y) (Some w) p q = iso x z y w p q
