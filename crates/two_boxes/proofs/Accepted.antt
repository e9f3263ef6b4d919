-- Accepted calls that tell a count or a share, as steps of a box.
use Rattle.std.proofs.Common.{◌≡◌, ℕ, Bool, None, Ok, sym, refl, subst}
use Rattle.heights.specs.Meaning.{Storage}
use Rattle.counters.specs.Calls.{View}
use Rattle.siting_box.specs.declared.told.Told.{Told}
use Rattle.siting_box.specs.Contents.{Contents}
use Rattle.siting_box.specs.Denials.{first_no}
use Rattle.siting_box.specs.Calls.{tell_questions, TellsCount, share_questions, TellsShare}
use Rattle.runs.specs.declared.call.Call.{Call}
use Rattle.runs.specs.declared.call.Call.TheVariants.{Tell, Share}
use Rattle.two_boxes.specs.declared.answer.Answer.TheVariants as answer
use Rattle.runs.specs.Calling.{form, brought}
use Rattle.two_boxes.specs.Running.{StepOf}

pub tell_step : {X C : Type 0} (k : Storage X C) (le : X → X → Bool) (call : Call) (x y : ℕ) (b : Contents X) (v : View X) (told : Told) → call ≡ Tell x y → None ≡ first_no (tell_questions b x y) → TellsCount le b (record { x = x; y = y }) told → StepOf k le (form call) (brought call) b b v v (answer.Told told.count told.cells)
tell_step k le call x y b v told is asked kept =
    subst (λ (c : Call). StepOf k le (form c) (brought c) b b v v (answer.Told told.count told.cells)) (sym is) (record { result = Ok told; denial = asked; kept = kept; told_is = refl }, refl, refl)

pub share_step : {X C : Type 0} (k : Storage X C) (le : X → X → Bool) (call : Call) (x y : ℕ) (b : Contents X) (v : View X) (share : ℕ) → call ≡ Share x y → None ≡ first_no (share_questions b x y) → TellsShare le b (record { x = x; y = y }) share → StepOf k le (form call) (brought call) b b v v (answer.Share share)
share_step k le call x y b v share is asked kept =
    subst (λ (c : Call). StepOf k le (form c) (brought c) b b v v (answer.Share share)) (sym is) (record { result = Ok share; denial = asked; kept = kept; told_is = refl }, refl, refl)
