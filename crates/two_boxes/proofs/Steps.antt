-- Partnered calls on paired boxes are answered alike and leave paired boxes: an answer shows what a run sees, and the steps.
use Rattle.std.proofs.Common.{◌≡◌, ℕ, Bool, true, List, length, Some, Ok, Err, Result, sym, refl, ap, ◌∙◌, arith}
use Rattle.heights.specs.Meaning.{Storage}
use Rattle.counters.specs.Calls.{View}
use Rattle.siting_box.specs.declared.denial.Denial.{Denial}
use Rattle.siting_box.specs.declared.told.Told.{Told}
use Rattle.siting_box.specs.Contents.{Contents, well_fitted, Counted, total_on}
use Rattle.siting_box.specs.Denials.{number, denied_by, first_no}
use Rattle.siting_box.specs.Calls.{total_questions, TotalAnswer}
use Rattle.runs.specs.Calling.{Form, opens, alters, sweeps, tells, shares, nears, totals, brings}
use Rattle.runs.specs.Running as run
use Rattle.two_boxes.specs.declared.answer.Answer.{Answer}
use Rattle.two_boxes.specs.declared.answer.Answer.TheVariants.{Denied, Done, Swept, Told as Counts, Share, Nearest, Total}
use Rattle.two_boxes.specs.Running.{Answered, answer_of, StepOf}
use Rattle.two_boxes.specs.Agreeing.{less_steps}
use Rattle.runs.proofs.Couples.{Compares}
use Rattle.runs.proofs.Readings.{Coupled}
use Rattle.runs.proofs.Boxes.{Paired}
use Rattle.runs.proofs.Cells.{unasked, no_cell}
use Rattle.runs.proofs.Steps as alike

-- what an answer shows
abbrev pub shown : Answer → run.Outcome
shown (Denied number cell) = run.denied number cell
shown Done = run.done
shown (Swept steps) = run.swept
shown (Counts count cells) = run.told count cells
shown (Share thousandths) = run.shared thousandths
shown (Nearest found) = run.nearest found
shown (Total sum) = run.totalled sum

-- an answer that shows this, with no steps
abbrev told_of : run.Outcome → Answer
told_of (run.denied number cell) = Denied number cell
told_of run.done = Done
told_of run.swept = Swept 0
told_of (run.told count cells) = Counts count cells
told_of (run.shared thousandths) = Share thousandths
told_of (run.nearest found) = Nearest found
told_of (run.totalled sum) = Total sum

told_shown : (a : Answer) → told_of (shown a) ≡ less_steps a
told_shown (Denied number cell) = refl
told_shown Done = refl
told_shown (Swept steps) = refl
told_shown (Counts count cells) = refl
told_shown (Share thousandths) = refl
told_shown (Nearest found) = refl
told_shown (Total sum) = refl

-- the result of a call shows what its answer does
result_seen : {A C : Type 0} (shows : A → Answer) (r : Result A (Denial C)) → shown (answer_of shows r) ≡ run.outcome_of (λ a. shown (shows a)) r
result_seen shows (Ok a) = refl
result_seen shows (Err d) = refl

seen : {A C : Type 0} {questions : List (ℕ × Bool)} {Promise : Result A (Denial C) → Type 0} (shows : A → Answer) {told : Answer} → Answered questions Promise shows told → run.Answered questions Promise (λ a. shown (shows a)) (shown told)
seen shows s = record { result = s.result; denial = s.denial; leaves = s.kept; shown = ap shown s.told_is ∙ result_seen shows s.result }

total_seen : {X C : Type 0} (le : X → X → Bool) (b : Contents X) (r : Result ℕ (Denial C)) → denied_by r ≡ first_no (total_questions b) → TotalAnswer le b r → shown (answer_of (λ sum. Total sum) r) ≡ run.total_shows (first_no (total_questions b)) (total_on b)
total_seen le b (Ok sum) q l = ap run.totalled l.on_record ∙ ap (λ n. run.total_shows n (total_on b)) q
total_seen le b (Err d) q l =
    ap (run.denied (number d)) (no_cell d (λ six. unasked 6 (total_questions b) (λ z. omega arith, (λ z. omega arith, tt)) (sym q ∙ ap Some six))) ∙ ap (λ n. run.total_shows n (total_on b)) q

-- a step of a box is a step as a run sees it
step_seen : {X C : Type 0} (k : Storage X C) (le : X → X → Bool) (f : Form) (bytes : List ℕ) (before after : Contents X) (old new : View X) (told : Answer) → StepOf k le f bytes before after old new told → run.StepOf k le f bytes before after old new (shown told)
step_seen k le (opens width rows radius) bytes before after old new told s = seen (λ _. Done) s.0
step_seen k le (alters x y) bytes before after old new told s = seen (λ _. Done) s.0
step_seen k le sweeps bytes before after old new told s = seen (λ steps. Swept steps) s
step_seen k le (tells x y) bytes before after old new told s = record { unchanged = s.1; answered = seen (λ (t : Told). Counts t.count t.cells) s.0 }
step_seen k le (shares x y) bytes before after old new told s = record { unchanged = s.1; answered = seen (λ share. Share share) s.0 }
step_seen k le (nears x y) bytes before after old new told s = record { unchanged = s.1; answered = seen (λ found. Nearest found) s.0 }
step_seen k le totals bytes before after old new told s = (s.1, ap shown s.0.told_is ∙ total_seen le before s.0.result s.0.denial s.0.kept)

-- after two calls the boxes are paired, and the answers are equal less the steps
pub record Together {X Y : Type 0} (P : X → Y → Type 0) (after : Contents X) (after' : Contents Y) (told told' : Answer) : Type 0 where
  pub paired : Paired P after after'
  pub answers : less_steps told ≡ less_steps told'

-- partnered calls of one form on paired boxes whose counts are the defined ones
pub step_together : {X C Y D : Type 0} (P : X → Y → Type 0) (k : Storage X C) (k' : Storage Y D) (le : X → X → Bool) (le' : Y → Y → Bool) (before after : Contents X) (before' after' : Contents Y) → Paired P before before' → (f : Form) (bytes bytes' : List ℕ) (old new : View X) (old' new' : View Y) (told told' : Answer) → Compares le le' P → Coupled P k k' (brings f) bytes bytes' → (f ≡ sweeps → old.places ≡ old'.places)
    → Counted le before → Counted le' before' → StepOf k le f bytes before after old new told → StepOf k' le' f bytes' before' after' old' new' told' → Together P after after' told told'
step_together P k k' le le' before after before' after' h f bytes bytes' old new old' new' told told' iso c e counted counted' s s' =
    let both = alike.step_together P k k' le le' before after before' after' h f bytes bytes' old new old' new' (shown told) (shown told') iso c e counted counted' (step_seen k le f bytes before after old new told s) (step_seen k' le' f bytes' before' after' old' new' told' s') in
    record { paired = both.paired; answers = sym (told_shown told) ∙ ap told_of both.outcomes ∙ told_shown told' }

-- each call keeps the counts the defined ones, in a box whose plan fits
pub step_keeps : {X C : Type 0} (k : Storage X C) (le : X → X → Bool) (f : Form) (bytes : List ℕ) (before after : Contents X) (old new : View X) (told : Answer) → well_fitted before.plan (length before.records) ≡ true → Counted le before → StepOf k le f bytes before after old new told → Counted le after
step_keeps k le f bytes before after old new told fit counted s = alike.step_keeps k le f bytes before after old new (shown told) fit counted (step_seen k le f bytes before after old new told s)
