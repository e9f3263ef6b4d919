-- A text is cut at its first space in one way only.
use Rattle.std.proofs.Common.{◌≡◌, ℕ, zero, suc, ◌-◌, ◌<◌, Bool, true, false, cond, eqb, List, [], ◌∷◌, ◌++◌, length, get_or, take, drop, sym, refl, ap, ◌∙◌, inl, inr, ⊎_elim, arith}
use Rattle.std.proofs.lemmas.Bool.Decides.{nat_tests}
use Rattle.std.proofs.lemmas.List.{take_all, drop_all}
use Rattle.std.specs.Prelude.{Option, Some, None, MatchOption, unwrap_or, HoldsAt}
use Rattle.std.specs.List.{AllWithin}
use Rattle.console_text.specs.Fields.{word, after_word, Ends}

-- no byte of the list is a space
abbrev pub Solid : List ℕ → Type 0
Solid xs = (k : ℕ) → k < length xs → get_or xs k 0 ≡ 32 → ⊥

-- the test for a space comes out true
space : (x : ℕ) → x ≡ 32 → eqb x 32 ≡ true
space x e = grind (arith, nat_tests)

-- the test for a space comes out false
no_space : (x : ℕ) → (x ≡ 32 → ⊥) → eqb x 32 ≡ false
no_space x e = grind (arith, nat_tests)

-- a first space at i cuts the list there
pub word_at : (xs : List ℕ) (i : ℕ) → ((k : ℕ) → k < i → get_or xs k 0 ≡ 32 → ⊥) → i < length xs → get_or xs i 0 ≡ 32 → (word xs ≡ take i xs) × (after_word xs ≡ drop i xs)
word_at [] i solid l e = absurd (omega arith)
word_at (x ∷ xs) zero solid l e =
    (ap (λ t. cond t [] (x ∷ word xs)) (space x e), ap (λ t. cond t (x ∷ xs) (after_word xs)) (space x e))
word_at (x ∷ xs) (suc i) solid l e =
    let other : eqb x 32 ≡ false = no_space x (solid 0 (omega arith)) in
    let on = word_at xs i (λ k h. solid (suc k) (omega arith)) (omega arith) e in (
      ap (λ t. cond t [] (x ∷ word xs)) other ∙ ap (λ t. x ∷ t) on.0,
      ap (λ t. cond t (x ∷ xs) (after_word xs)) other ∙ on.1,
    )

-- a word without a space, and what begins with one, are found again in what they make together
pub word_append : (xs ys : List ℕ) → Solid xs → Ends ys → (word (xs ++ ys) ≡ xs) × (after_word (xs ++ ys) ≡ ys)
word_append [] ys solid e =
    ⊎_elim
    (λ none. (ap word none, ap after_word none ∙ sym none))
    (λ more. (ap word more.1, ap after_word more.1 ∙ sym more.1))
    e
word_append (x ∷ xs) ys solid e =
    let other : eqb x 32 ≡ false = no_space x (solid 0 (omega arith)) in
    let on = word_append xs ys (λ k h. solid (suc k) (omega arith)) e in (
      ap (λ t. cond t [] (x ∷ word (xs ++ ys))) other ∙ ap (λ t. x ∷ t) on.0,
      ap (λ t. cond t (x ∷ (xs ++ ys)) (after_word (xs ++ ys))) other ∙ on.1,
    )

-- a list with no space is one word
pub word_all : (xs : List ℕ) → Solid xs → (word xs ≡ xs) × (after_word xs ≡ [])
word_all [] solid = (refl, refl)
word_all (x ∷ xs) solid =
    let other : eqb x 32 ≡ false = no_space x (solid 0 (omega arith)) in
    let on = word_all xs (λ k h. solid (suc k) (omega arith)) in (
      ap (λ t. cond t [] (x ∷ word xs)) other ∙ ap (λ t. x ∷ t) on.0,
      ap (λ t. cond t (x ∷ xs) (after_word xs)) other ∙ on.1,
    )

-- one byte more in front, by what the test for a space says of it
joined_by : (x : ℕ) (xs : List ℕ) (t : Bool) → word xs ++ after_word xs ≡ xs → Ends (after_word xs) → eqb x 32 ≡ t → (cond t [] (x ∷ word xs) ++ cond t (x ∷ xs) (after_word xs) ≡ x ∷ xs) × Ends (cond t (x ∷ xs) (after_word xs))
joined_by x xs true e s t = (refl, inr (xs, ap (λ c. c ∷ xs) (grind (arith, nat_tests))))
joined_by x xs false e s t = (ap (λ l. x ∷ l) e, s)

-- the two parts make the list again
pub word_joined : (xs : List ℕ) → (word xs ++ after_word xs ≡ xs) × Ends (after_word xs)
word_joined [] = (refl, inl refl)
word_joined (x ∷ xs) = let on = word_joined xs in joined_by x xs (eqb x 32) on.0 on.1 refl

-- what a pattern [first, rest @ ..] takes apart, where the first is no 0
pub first_and_rest : (xs : List ℕ) (x : ℕ) → 0 < x → get_or xs 0 0 ≡ x → xs ≡ x ∷ take (length xs - 1) (drop 1 xs)
first_and_rest [] x l e = absurd (omega arith)
first_and_rest (y ∷ ys) x l e =
    ap (λ t. t ∷ ys) e ∙ ap (λ t. x ∷ t) (sym (take_all (length (y ∷ ys) - 1) ys (omega arith)))

-- the first space, or the end where there is none, cuts the list
pub cut_at : (xs : List ℕ) (r : Option ℕ) → MatchOption r (AllWithin (λ x. x ≡ 32 → ⊥) xs 0 (length xs)) (λ i. (i < length xs) × HoldsAt (λ x. x ≡ 32) xs i × AllWithin (λ x. x ≡ 32 → ⊥) xs 0 i) → (take (unwrap_or r (length xs)) xs ≡ word xs) × (drop (unwrap_or r (length xs)) xs ≡ after_word xs)
cut_at xs None solid =
    let w = word_all xs (λ k h. solid k 0 (omega arith) h) in
    (take_all (length xs) xs (omega arith) ∙ sym w.0, drop_all (length xs) xs (omega arith) ∙ sym w.1)
cut_at xs (Some i) first =
    let w = word_at xs i (λ k h. first.2 k 0 (omega arith) h) first.0 (first.1 0) in
    (sym w.0, sym w.1)

-- equal lists have equal first elements
pub same_first : (a b : ℕ) (xs ys : List ℕ) → a ∷ xs ≡ b ∷ ys → a ≡ b
same_first a b xs ys e = cc

-- equal lists have equal rests
pub same_rest : (a b : ℕ) (xs ys : List ℕ) → a ∷ xs ≡ b ∷ ys → xs ≡ ys
same_rest a b xs ys e = cc
