-- Equal denials show the same.
use Rattle.std.proofs.Common.{◌≡◌, ℕ, Bool, true, false, List, [], ◌∷◌, Some, None, Option, sym, refl, ap, ◌∙◌, arith}
use Rattle.std.proofs.lemmas.Option.{same_Some, none-some}
use Rattle.std.specs.List.{AllByRecursion as All}
use Rattle.grid.specs.declared.Place.{Place}
use Rattle.siting_box.specs.declared.denial.Denial.{Denial}
use Rattle.siting_box.specs.declared.denial.Denial.TheVariants.{NoPlan, Sizes, TooFewRecords, Outside, StoredLength, Unread, NoRowLeft, TooFewPlaces, NotSwept, RowsLeft}
use Rattle.siting_box.specs.Denials.{number, first_no}
use Rattle.siting_box.specs.Calls.{Carries}
use Rattle.agreement.proofs.Places.{place_same}
use Rattle.runs.specs.Running.{denied, cell_of}

-- a question of a call that was not denied was answered yes
yes : (n : ℕ) (t : Bool) (questions : List (ℕ × Bool)) → first_no ((n, t) ∷ questions) ≡ None → (t ≡ true) × (first_no questions ≡ None)
yes n true questions e = (refl, e)
yes n false questions e = absurd (none-some n (sym e))

-- so was a question before the one that denied
past : (n m : ℕ) (t : Bool) (questions : List (ℕ × Bool)) → (n ≡ m → ⊥) → first_no ((n, t) ∷ questions) ≡ Some m → (t ≡ true) × (first_no questions ≡ Some m)
past n m true questions ne e = (refl, e)
past n m false questions ne e = absurd (ne (same_Some n m e))

-- all questions of a call that was not denied were answered yes
pub all_yes : (questions : List (ℕ × Bool)) → first_no questions ≡ None → All (λ (q : ℕ × Bool). q.1 ≡ true) questions
all_yes [] e = tt
all_yes (q ∷ questions) e = let first = yes q.0 q.1 questions e in (first.0, all_yes questions first.1)

-- an open that was denied by question 6 brought as many bytes as it should
pub six : (a b c d : Bool) → first_no ((2, a) ∷ ((3, b) ∷ ((5, c) ∷ ((6, d) ∷ [])))) ≡ Some 6 → c ≡ true
six a b c d e =
    let two = past 2 6 a ((3, b) ∷ ((5, c) ∷ ((6, d) ∷ []))) (λ z. omega arith) e in
    let three = past 3 6 b ((5, c) ∷ ((6, d) ∷ [])) (λ z. omega arith) two.1 in
    (past 5 6 c ((6, d) ∷ []) (λ z. omega arith) three.1).0

-- a question that is not asked denies nothing
pub unasked : (m : ℕ) (questions : List (ℕ × Bool)) → All (λ (q : ℕ × Bool). q.0 ≡ m → ⊥) questions → first_no questions ≡ Some m → ⊥
unasked m [] all e = none-some m e
unasked m (q ∷ questions) all e = unasked m questions all.1 (past q.0 m q.1 questions all.0 e).1

-- only a denial by question 6 carries a cell
pub no_cell : {C : Type 0} (d : Denial C) → (number d ≡ 6 → ⊥) → cell_of d ≡ None
no_cell NoPlan ne = refl
no_cell Sizes ne = refl
no_cell TooFewRecords ne = refl
no_cell Outside ne = refl
no_cell StoredLength ne = refl
no_cell (Unread c at) ne = absurd (ne refl)
no_cell NoRowLeft ne = refl
no_cell TooFewPlaces ne = refl
no_cell NotSwept ne = refl
no_cell RowsLeft ne = refl

carried : {D : Type 0} (Q : D → (x y : ℕ) → Type 0) (d : Denial D) (x y : ℕ) → number d ≡ 6 → Carries Q d → ((c : D) (x' y' : ℕ) → Q c x' y' → (x ≡ x') × (y ≡ y')) → Some (record { x = x; y = y }) ≡ cell_of d
carried Q NoPlan x y e v f = absurd (omega arith)
carried Q Sizes x y e v f = absurd (omega arith)
carried Q TooFewRecords x y e v f = absurd (omega arith)
carried Q Outside x y e v f = absurd (omega arith)
carried Q StoredLength x y e v f = absurd (omega arith)
carried Q (Unread c at) x y e v f = let same = f c at.x at.y v in ap Some (place_same (record { x = x; y = y }) at same.0 same.1)
carried Q NoRowLeft x y e v f = absurd (omega arith)
carried Q TooFewPlaces x y e v f = absurd (omega arith)
carried Q NotSwept x y e v f = absurd (omega arith)
carried Q RowsLeft x y e v f = absurd (omega arith)

module _ {C D : Type 0} (P : C → (x y : ℕ) → Type 0) (Q : D → (x y : ℕ) → Type 0) where
  -- denials by the same number carry the same cell, if those by question 6 do
  pub same_cell : (d : Denial C) (d' : Denial D) → number d ≡ number d' → Carries P d → Carries Q d' → ((c : C) (x y : ℕ) (c' : D) (x' y' : ℕ) → number d ≡ 6 → P c x y → Q c' x' y' → (x ≡ x') × (y ≡ y')) → cell_of d ≡ cell_of d'
  same_cell NoPlan d' e u v f = sym (no_cell d' (λ s. omega arith))
  same_cell Sizes d' e u v f = sym (no_cell d' (λ s. omega arith))
  same_cell TooFewRecords d' e u v f = sym (no_cell d' (λ s. omega arith))
  same_cell Outside d' e u v f = sym (no_cell d' (λ s. omega arith))
  same_cell StoredLength d' e u v f = sym (no_cell d' (λ s. omega arith))
  same_cell (Unread c at) d' e u v f = carried Q d' at.x at.y (sym e) v (λ c' x' y' q. f c at.x at.y c' x' y' refl u q)
  same_cell NoRowLeft d' e u v f = sym (no_cell d' (λ s. omega arith))
  same_cell TooFewPlaces d' e u v f = sym (no_cell d' (λ s. omega arith))
  same_cell NotSwept d' e u v f = sym (no_cell d' (λ s. omega arith))
  same_cell RowsLeft d' e u v f = sym (no_cell d' (λ s. omega arith))

-- equal numbers and cells show the same
pub same_denied : (n m : ℕ) (a b : Option Place) → n ≡ m → a ≡ b → denied n a ≡ denied m b
same_denied n m a b e f = ap (λ t. denied t a) e ∙ ap (denied m) f
