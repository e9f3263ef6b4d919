-- Partnered calls are denied alike.
use Rattle.std.proofs.Common.{◌≡◌, ℕ, ◌*◌, Bool, true, false, cond, eqb, leb, List, [], ◌∷◌, length, is_some, is_ok, Some, Option, sym, refl, ap, ◌∙◌, subst, arith}
use Rattle.std.proofs.lemmas.Bool.{eqb-true, true≢false}
use Rattle.heights.specs.Meaning.{Storage}
use Rattle.grid.specs.declared.Plan.{Plan}
use Rattle.grid.specs.Sizes.{lawful_sizes}
use Rattle.siting_box.specs.Contents.{Contents}
use Rattle.siting_box.specs.Stored.{stored_at, read_first}
use Rattle.siting_box.specs.Denials.{first_no}
use Rattle.siting_box.specs.Calls.{has_cell, open_questions, alter_questions}
use Rattle.runs.proofs.Readings.{OneAlike, Coupled, one_ok, all_ok, first_alike, alone}

-- the bytes' number, and then what they read as
last_two : (c c' d d' : Bool) → c ≡ c' → (c ≡ true → d ≡ d') → first_no ((5, c) ∷ ((6, d) ∷ [])) ≡ first_no ((5, c') ∷ ((6, d') ∷ []))
last_two true true d d' e f = ap (λ t. first_no ((6, t) ∷ [])) (f refl)
last_two true false d d' e f = absurd (true≢false e)
last_two false true d d' e f = absurd (true≢false (sym e))
last_two false false d d' e f = refl

module _ {X C Y D : Type 0} (P : X → Y → Type 0) (k : Storage X C) (k' : Storage Y D) where
  -- partnered opens of boxes with equally many records are denied by the same number or by none
  pub open_alike : (b : Contents X) (b' : Contents Y) (width rows radius : ℕ) (bytes bytes' : List ℕ) → length b.records ≡ length b'.records → Coupled P k k' (width * rows) bytes bytes'
      → first_no (open_questions k b width rows radius bytes) ≡ first_no (open_questions k' b' width rows radius bytes')
  open_alike b b' width rows radius bytes bytes' fitted c =
      let rest : Bool → Bool → Bool → Option ℕ = λ t u v. cond (lawful_sizes width rows radius) (cond t (first_no ((5, u) ∷ ((6, v) ∷ []))) (Some 3)) (Some 2) in
      ap (λ t. rest t (eqb (length bytes) (width * rows * k.wide)) (is_ok (read_first k bytes (width * rows)))) (ap (leb (width * rows)) fitted)
      ∙ ap (λ t. cond (lawful_sizes width rows radius) (cond (leb (width * rows) (length b'.records)) t (Some 3)) (Some 2))
      (last_two (eqb (length bytes) (width * rows * k.wide)) (eqb (length bytes') (width * rows * k'.wide)) (is_ok (read_first k bytes (width * rows))) (is_ok (read_first k' bytes' (width * rows))) c.lengths
      (λ long. all_ok P (read_first k bytes (width * rows)) (read_first k' bytes' (width * rows)) (first_alike P k k' bytes bytes' (width * rows) (c.readings long))))

  -- the one stored height of partnered alters
  pub alter_reads : (bytes bytes' : List ℕ) → Coupled P k k' 1 bytes bytes' → eqb (length bytes) k.wide ≡ true → OneAlike P (k.reads bytes) (k'.reads bytes')
  alter_reads bytes bytes' c long =
      let one : 1 * k.wide ≡ k.wide = omega arith in
      let one' : 1 * k'.wide ≡ k'.wide = omega arith in
      let long₁ : eqb (length bytes) (1 * k.wide) ≡ true = ap (eqb (length bytes)) one ∙ long in
      let long₂ : eqb (length bytes') k'.wide ≡ true = ap (eqb (length bytes')) (sym one') ∙ sym c.lengths ∙ long₁ in
      let here : OneAlike P (stored_at k bytes 0) (stored_at k' bytes' 0) = c.readings long₁ 0 (omega arith) in
      subst (λ t. OneAlike P (k.reads bytes) t) (alone k' bytes' (eqb-true (length bytes') k'.wide long₂))
      (subst (λ t. OneAlike P t (stored_at k' bytes' 0)) (alone k bytes (eqb-true (length bytes) k.wide long)) here)

  -- partnered alters of boxes with equal plans are denied by the same number or by none
  pub alter_alike : (b : Contents X) (b' : Contents Y) (x y : ℕ) (bytes bytes' : List ℕ) → b.plan ≡ b'.plan → Coupled P k k' 1 bytes bytes'
      → first_no (alter_questions k b x y bytes) ≡ first_no (alter_questions k' b' x y bytes')
  alter_alike b b' x y bytes bytes' plans c =
      let one : 1 * k.wide ≡ k.wide = omega arith in
      let one' : 1 * k'.wide ≡ k'.wide = omega arith in
      let lengths : eqb (length bytes) k.wide ≡ eqb (length bytes') k'.wide = ap (eqb (length bytes)) (sym one) ∙ c.lengths ∙ ap (eqb (length bytes')) one' in
      let front : Option Plan → Option ℕ → Option ℕ = λ p t. cond (is_some p) (cond (has_cell p x y) t (Some 4)) (Some 1) in
      ap (front b.plan) (last_two (eqb (length bytes) k.wide) (eqb (length bytes') k'.wide) (is_ok (k.reads bytes)) (is_ok (k'.reads bytes')) lengths
      (λ long. one_ok P (k.reads bytes) (k'.reads bytes') (alter_reads bytes bytes' c long)))
      ∙ ap (λ p. front p (first_no (alter_questions_last k' bytes'))) plans
    where
      alter_questions_last : {Z E : Type 0} → Storage Z E → List ℕ → List (ℕ × Bool)
      alter_questions_last s bs = (5, eqb (length bs) s.wide) ∷ ((6, is_ok (s.reads bs)) ∷ [])
