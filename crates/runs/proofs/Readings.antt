-- Stored heights that are partners read alike.
use Rattle.std.proofs.Common.{◌≡◌, ℕ, zero, suc, ◌*◌, ◌<◌, true, eqb, List, length, take, drop, is_ok, Some, Ok, Err, Result, sym, refl, ap, ◌∙◌, subst, arith}
use Rattle.std.specs.List.{slice_get}
use Rattle.std.proofs.lemmas.List.{take_all}
use Rattle.std.proofs.lemmas.Bool.{true≢false}
use Rattle.heights.specs.Meaning.{Storage}
use Rattle.siting_box.specs.Stored.{stored_at, read_more, read_first}
use Rattle.runs.specs.declared.call.Call.{Call}
use Rattle.runs.specs.Calling.{form, brought, brings}
use Rattle.runs.specs.Matching.{Partners, ReadAt}
use Rattle.runs.specs.Pointwise.{Pointwise}
use Rattle.runs.proofs.Couples.{both_push}

-- two readings of one stored height: partners, or none twice
abbrev pub OneAlike : {X C Y D : Type 0} → (X → Y → Type 0) → Result X C → Result Y D → Type 0
OneAlike P (Ok x) (Ok y) = P x y
OneAlike P (Ok x) (Err d) = ⊥
OneAlike P (Err c) (Ok y) = ⊥
OneAlike P (Err c) (Err d) = Unit {0}

-- two readings of many: partners, or failures at the same index
abbrev pub AllAlike : {X C Y D : Type 0} → (X → Y → Type 0) → Result (List X) (ℕ × C) → Result (List Y) (ℕ × D) → Type 0
AllAlike P (Ok hs) (Ok gs) = Pointwise P hs gs
AllAlike P (Ok hs) (Err f) = ⊥
AllAlike P (Err e) (Ok gs) = ⊥
AllAlike P (Err e) (Err f) = e.0 ≡ f.0

-- the bytes of two partnered calls: as many as n stored heights take in both or in neither, and where they are, read alike
pub record Coupled {X C Y D : Type 0} (P : X → Y → Type 0) (k : Storage X C) (k' : Storage Y D) (n : ℕ) (bytes bytes' : List ℕ) : Type 0 where
  pub lengths : eqb (length bytes) (n * k.wide) ≡ eqb (length bytes') (n * k'.wide)
  pub readings : eqb (length bytes) (n * k.wide) ≡ true → (i : ℕ) → i < n → OneAlike P (stored_at k bytes i) (stored_at k' bytes' i)

module _ {X C Y D : Type 0} (P : X → Y → Type 0) where
  pub one_alike : (s : Result X C) (s' : Result Y D) → is_ok s ≡ is_ok s' → ((x : X) (y : Y) → s ≡ Ok x → s' ≡ Ok y → P x y) → OneAlike P s s'
  one_alike (Ok x) (Ok y) e p = p x y refl refl
  one_alike (Ok x) (Err d) e p = true≢false e
  one_alike (Err c) (Ok y) e p = true≢false (sym e)
  one_alike (Err c) (Err d) e p = tt

  pub one_ok : (s : Result X C) (s' : Result Y D) → OneAlike P s s' → is_ok s ≡ is_ok s'
  one_ok (Ok x) (Ok y) p = refl
  one_ok (Ok x) (Err d) p = absurd p
  one_ok (Err c) (Ok y) p = absurd p
  one_ok (Err c) (Err d) p = refl

  pub all_ok : (r : Result (List X) (ℕ × C)) (r' : Result (List Y) (ℕ × D)) → AllAlike P r r' → is_ok r ≡ is_ok r'
  all_ok (Ok x) (Ok y) p = refl
  all_ok (Ok x) (Err d) p = absurd p
  all_ok (Err c) (Ok y) p = absurd p
  all_ok (Err c) (Err d) p = refl

  more_alike : (i : ℕ) (r : Result (List X) (ℕ × C)) (r' : Result (List Y) (ℕ × D)) (s : Result X C) (s' : Result Y D) → AllAlike P r r' → OneAlike P s s' → AllAlike P (read_more r i s) (read_more r' i s')
  more_alike i (Ok hs) (Ok gs) (Ok x) (Ok y) p q = both_push P hs gs x y p q
  more_alike i (Ok hs) (Ok gs) (Ok x) (Err d) p q = absurd q
  more_alike i (Ok hs) (Ok gs) (Err c) (Ok y) p q = absurd q
  more_alike i (Ok hs) (Ok gs) (Err c) (Err d) p q = refl
  more_alike i (Ok hs) (Err f) s s' p q = absurd p
  more_alike i (Err e) (Ok gs) s s' p q = absurd p
  more_alike i (Err e) (Err f) s s' p q = p

  -- the first n stored heights read alike where each of them does
  pub first_alike : (k : Storage X C) (k' : Storage Y D) (bytes bytes' : List ℕ) (n : ℕ) → ((i : ℕ) → i < n → OneAlike P (stored_at k bytes i) (stored_at k' bytes' i)) → AllAlike P (read_first k bytes n) (read_first k' bytes' n)
  first_alike k k' bytes bytes' zero each = tt
  first_alike k k' bytes bytes' (suc n) each =
      more_alike n (read_first k bytes n) (read_first k' bytes' n) (stored_at k bytes n) (stored_at k' bytes' n) (first_alike k k' bytes bytes' n (λ i lt. each i (omega arith))) (each n (omega arith))

  -- heights read are partners
  pub heights_alike : (r : Result (List X) (ℕ × C)) (r' : Result (List Y) (ℕ × D)) (hs : List X) (gs : List Y) → AllAlike P r r' → r ≡ Ok hs → r' ≡ Ok gs → Pointwise P hs gs
  heights_alike r r' hs gs p e f = subst (λ t. AllAlike {C = C} P (Ok hs) t) f (subst (λ t. AllAlike P t r') e p)

  -- failures are at the same index
  pub failures_alike : (r : Result (List X) (ℕ × C)) (r' : Result (List Y) (ℕ × D)) (i j : ℕ) (c : C) (d : D) → AllAlike P r r' → r ≡ Err (i, c) → r' ≡ Err (j, d) → i ≡ j
  failures_alike r r' i j c d p e f = subst (λ t. AllAlike P (Err (i, c)) t) f (subst (λ t. AllAlike P t r') e p)

  pub one_height : (s : Result X C) (s' : Result Y D) (x : X) (y : Y) → OneAlike P s s' → s ≡ Ok x → s' ≡ Ok y → P x y
  one_height s s' x y p e f = subst (λ t. OneAlike {C = C} P (Ok x) t) f (subst (λ t. OneAlike P t s') e p)

-- bytes of one stored height are that height
pub alone : {X C : Type 0} (k : Storage X C) (bytes : List ℕ) → length bytes ≡ k.wide → stored_at k bytes 0 ≡ k.reads bytes
alone k bytes e =
    let none : 0 * k.wide ≡ 0 = omega arith in
    ap (λ n. k.reads (take k.wide (drop n bytes))) none ∙ ap k.reads (take_all k.wide bytes (omega arith))

-- partnered calls of two lists bring coupled bytes
pub coupled : {X C Y D : Type 0} (k : Storage X C) (k' : Storage Y D) (calls calls' : List Call) (place : ℕ) (c c' : Call) → slice_get calls place ≡ Some c → slice_get calls' place ≡ Some c' → Partners k k' c c' → Coupled (ReadAt k k' calls calls') k k' (brings (form c)) (brought c) (brought c')
coupled {X} {C} {Y} {D} k k' calls calls' place c c' at at' p = record {
  lengths = p.lengths ∙ ap (λ f. eqb (length (brought c')) (brings f * k'.wide)) (sym p.forms);
  readings = λ long i lt.
      one_alike (ReadAt k k' calls calls') (stored_at k (brought c) i) (stored_at k' (brought c') i) (p.readings long i lt)
      (λ x y e f. record { place = place; index = i; call = c; call' = c'; call_is = at; call_is' = at'; long = long; within = lt; read = e; read' = f });
}
