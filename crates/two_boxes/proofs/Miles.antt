-- Partnered sweeps with finger lists take equal steps.
use Rattle.std.proofs.Common.{◌≡◌, ℕ, Bool, true, List, Ok, Err, Result, sym, refl, ap, ◌∙◌, arith}
use Rattle.heights.specs.Meaning.{Storage}
use Rattle.heights.specs.Order.{Preorder}
use Rattle.counters.specs.Calls.{View}
use Rattle.counters.specs.Fingers.{by_fingers}
use Rattle.siting_box.specs.Contents.{Contents}
use Rattle.siting_box.specs.declared.denial.Denial.{Denial}
use Rattle.siting_box.specs.Calls.{SweepLeaves}
use Rattle.two_boxes.specs.declared.answer.Answer.{Answer}
use Rattle.two_boxes.specs.declared.answer.Answer.TheVariants as answer
use Rattle.runs.specs.Calling.{Form, opens, alters, sweeps, tells, shares, nears, totals}
use Rattle.two_boxes.specs.Running.{answer_of, StepOf}
use Rattle.two_boxes.specs.Agreeing.{less_steps, steps_told}
use Rattle.runs.proofs.Miles.{swept_miles}
use Rattle.runs.proofs.Couples.{Compares}
use Rattle.runs.proofs.Boxes.{Paired}

-- a call whose answers tell no steps
pub no_steps : {A C : Type 0} (shows : A → Answer) (r : Result A (Denial C)) (told : Answer) → ((a : A) → steps_told (shows a) ≡ 0) → told ≡ answer_of shows r → steps_told told ≡ 0
no_steps shows (Ok a) told none e = ap steps_told e ∙ none a
no_steps shows (Err d) told none e = ap steps_told e

module _ {X C Y D : Type 0} (P : X → Y → Type 0) (k : Storage X C) (k' : Storage Y D) (le : X → X → Bool) (le' : Y → Y → Bool) (ordered : Preorder le) (ordered' : Preorder le') (iso : Compares le le' P) (before after : Contents X) (before' after' : Contents Y) (h : Paired P before before') (old new : View X) (old' new' : View Y) (told told' : Answer) (same : less_steps told ≡ less_steps told') where
  -- sweeps of paired boxes that are answered alike, where finger lists count in both
  sweep_miles : (r : Result ℕ (Denial C)) (r' : Result ℕ (Denial D)) → told ≡ answer_of (λ steps. answer.Swept steps) r → told' ≡ answer_of (λ steps. answer.Swept steps) r' → SweepLeaves le before after old new r → SweepLeaves le' before' after' old' new' r' → by_fingers old.rule ≡ true → by_fingers old'.rule ≡ true → steps_told told ≡ steps_told told'
  sweep_miles (Ok m) (Ok m') e e' l l' fingers fingers' = ap steps_told e ∙ swept_miles P le le' ordered ordered' iso before after before' after' old new old' new' m m' h l l' fingers fingers' ∙ sym (ap steps_told e')
  sweep_miles (Ok m) (Err d) e e' l l' fingers fingers' = let clash = sym (ap less_steps e) ∙ same ∙ ap less_steps e' in let z : ◌≡◌ {A = ℕ} 0 1 = cc in absurd (omega arith)
  sweep_miles (Err d) (Ok m') e e' l l' fingers fingers' = let clash = sym (ap less_steps e) ∙ same ∙ ap less_steps e' in let z : ◌≡◌ {A = ℕ} 0 1 = cc in absurd (omega arith)
  sweep_miles (Err d) (Err d') e e' l l' fingers fingers' = ap steps_told e ∙ sym (ap steps_told e')

  -- partnered calls of one form
  pub step_miles : (f : Form) (bytes bytes' : List ℕ) → StepOf k le f bytes before after old new told → StepOf k' le' f bytes' before' after' old' new' told' → by_fingers old.rule ≡ true → by_fingers old'.rule ≡ true → steps_told told ≡ steps_told told'
  step_miles (opens width rows radius) bytes bytes' s s' fingers fingers' = no_steps _ s.0.result told (λ _. refl) s.0.told_is ∙ sym (no_steps _ s'.0.result told' (λ _. refl) s'.0.told_is)
  step_miles (alters x y) bytes bytes' s s' fingers fingers' = no_steps _ s.0.result told (λ _. refl) s.0.told_is ∙ sym (no_steps _ s'.0.result told' (λ _. refl) s'.0.told_is)
  step_miles sweeps bytes bytes' s s' fingers fingers' = sweep_miles s.result s'.result s.told_is s'.told_is s.kept s'.kept fingers fingers'
  step_miles (tells x y) bytes bytes' s s' fingers fingers' = no_steps _ s.0.result told (λ _. refl) s.0.told_is ∙ sym (no_steps _ s'.0.result told' (λ _. refl) s'.0.told_is)
  step_miles (shares x y) bytes bytes' s s' fingers fingers' = no_steps _ s.0.result told (λ _. refl) s.0.told_is ∙ sym (no_steps _ s'.0.result told' (λ _. refl) s'.0.told_is)
  step_miles (nears x y) bytes bytes' s s' fingers fingers' = no_steps _ s.0.result told (λ _. refl) s.0.told_is ∙ sym (no_steps _ s'.0.result told' (λ _. refl) s'.0.told_is)
  step_miles totals bytes bytes' s s' fingers fingers' = no_steps _ s.0.result told (λ _. refl) s.0.told_is ∙ sym (no_steps _ s'.0.result told' (λ _. refl) s'.0.told_is)
