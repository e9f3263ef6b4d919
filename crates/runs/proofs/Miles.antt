-- Partnered sweeps with finger lists take equal steps.
use Rattle.std.proofs.Common.{◌≡◌, ℕ, ◌*◌, Bool, true, take, Some, sym, ◌∙◌, subst}
use Rattle.std.proofs.lemmas.Option.{same_Some}
use Rattle.heights.specs.Order.{Preorder}
use Rattle.counters.specs.Calls.{View}
use Rattle.counters.specs.Fingers.{by_fingers}
use Rattle.grid.specs.declared.Plan.{Plan}
use Rattle.grid.specs.Alike.{Alike}
use Rattle.ceiling.specs.Roughness.{FingerSwept}
use Rattle.ceiling.proofs.Comparing.{equal_steps}
use Rattle.siting_box.specs.Contents.{Contents, plan_terrain}
use Rattle.siting_box.specs.Calls.{SweptPlan}
use Rattle.runs.proofs.Couples.{Compares}
use Rattle.runs.proofs.Boxes.{Paired}
use Rattle.runs.proofs.Grids.{paired_alike}

-- an accepted sweep with a finger list swept a row of the box's grid
pub row_swept : {X : Type 0} (le : X → X → Bool) (before after : Contents X) (old new : View X) (mileage : ℕ) → (s : SweptPlan le before after old new mileage) → by_fingers old.rule ≡ true → FingerSwept le (plan_terrain (Some s.plan) before.records) s.plan.radius s.plan.swept mileage
row_swept le before after old new mileage s fingers = record {
  before = take (s.plan.width * s.plan.rows) before.records;
  after = s.cells;
  old = old;
  new = new;
  swept = s.row;
  counted = fingers;
}

-- accepted sweeps of paired boxes answer equal mileages where finger lists count in both
pub swept_miles : {X Y : Type 0} (P : X → Y → Type 0) (le : X → X → Bool) (le' : Y → Y → Bool) → Preorder le → Preorder le' → Compares le le' P → (before after : Contents X) (before' after' : Contents Y) (old new : View X) (old' new' : View Y) (mileage mileage' : ℕ) → Paired P before before'
    → SweptPlan le before after old new mileage → SweptPlan le' before' after' old' new' mileage' → by_fingers old.rule ≡ true → by_fingers old'.rule ≡ true → mileage ≡ mileage'
swept_miles P le le' ordered ordered' iso before after before' after' old new old' new' mileage mileage' h s s' fingers fingers' =
    let p = s.plan in
    let e : s'.plan ≡ p = same_Some s'.plan p (sym s'.plan_is ∙ sym h.plans ∙ s.plan_is) in
    let alike = paired_alike P le le' before before' iso h in
    let alike_at : Alike le le' (plan_terrain (Some p) before.records) (plan_terrain (Some p) before'.records) =
    subst (λ o. Alike le le' (plan_terrain (Some p) before.records) (plan_terrain o before'.records)) (sym h.plans ∙ s.plan_is) (subst (λ o. Alike le le' (plan_terrain o before.records) (plan_terrain before'.plan before'.records)) s.plan_is alike) in
    let row' : FingerSwept le' (plan_terrain (Some p) before'.records) p.radius p.swept mileage' =
    subst (λ (q : Plan). FingerSwept le' (plan_terrain (Some q) before'.records) q.radius q.swept mileage') e (row_swept le' before' after' old' new' mileage' s' fingers') in
    equal_steps ordered ordered' (plan_terrain (Some p) before.records) (plan_terrain (Some p) before'.records) p.radius p.swept mileage mileage' alike_at (row_swept le before after old new mileage s fingers) row'
