-- What the calls of a list do to a box, one after another.
use Rattle.std.specs.Prelude.{◌≡◌, ℕ, suc, ◌%◌, Bool, List, [], ◌∷◌, ◌++◌, map, length, drop, Some, Ok, Err, Result, slice_set}
use Rattle.std.specs.List.{slice_get}
use Rattle.heights.specs.Meaning.{Storage}
use Rattle.counters.specs.Calls.{View}
use Rattle.siting_box.specs.declared.told.Told.{Told}
use Rattle.siting_box.specs.declared.denial.Denial.{Denial}
use Rattle.siting_box.specs.Contents.{Contents}
use Rattle.siting_box.specs.Denials.{number, denied_by, first_no}
use Rattle.siting_box.specs.Calls.{open_questions, OpenLeaves, alter_questions, AlterLeaves, sweep_questions, SweepLeaves, tell_questions, TellAnswer, share_questions, ShareAnswer, nearest_questions, NearestAnswer, total_questions, TotalAnswer}
use Rattle.runs.specs.declared.call.Call.{Call}
use Rattle.two_boxes.specs.declared.answer.Answer.{Answer}
use Rattle.two_boxes.specs.declared.answer.Answer.TheVariants as answer
use Rattle.runs.specs.Calling.{Form, opens, alters, sweeps, tells, shares, nears, totals, form, brought}
use Rattle.runs.specs.Running.{cell_of}

-- a denial as an answer: its number, and the cell that it carries
abbrev pub denial_answer : {C : Type 0} → Denial C → Answer
denial_answer denial = answer.Denied (number denial) (cell_of denial)

-- the result of a call as an answer
abbrev pub answer_of : {A C : Type 0} → (A → Answer) → Result A (Denial C) → Answer
answer_of shows (Ok a) = shows a
answer_of shows (Err denial) = denial_answer denial

-- a call came to a result that its questions and its promise allow, and that result was answered
pub record Answered {A C : Type 0} (questions : List (ℕ × Bool)) (Promise : Result A (Denial C) → Type 0) (shows : A → Answer) (told : Answer) : Type 0 where
  pub result : Result A (Denial C)
  pub denial : denied_by result ≡ first_no questions
  pub kept : Promise result
  pub told_is : told ≡ answer_of shows result

-- one call that came to a box: the box before and after it, what the counter at hand showed before and after it, and the answer
pub record Event (X : Type 0) : Type 0 where
  pub call : Call
  pub before : Contents X
  pub after : Contents X
  pub old : View X
  pub new : View X
  pub answer : Answer

-- what a call of this form that brings these bytes does to box and counter, and what it answers; only open, alter and sweep
-- change the box, and only sweep changes the counter
abbrev pub StepOf : {X C : Type 0} → Storage X C → (X → X → Bool) → Form → List ℕ → (before after : Contents X) → (old new : View X) → Answer → Type 0
StepOf k le (opens width rows radius) bytes before after old new told =
    Answered (open_questions k before width rows radius bytes) (OpenLeaves k width rows radius bytes before after) (λ _. answer.Done) told × (new ≡ old)
StepOf k le (alters x y) bytes before after old new told =
    Answered (alter_questions k before x y bytes) (AlterLeaves k le x y bytes before after) (λ _. answer.Done) told × (new ≡ old)
StepOf {X} {C} k le sweeps bytes before after old new told =
    Answered (sweep_questions before old.places) (SweepLeaves {C = C} le before after old new) (λ steps. answer.Swept steps) told
StepOf {X} {C} k le (tells x y) bytes before after old new told =
    Answered (tell_questions before x y) (TellAnswer {C = C} le before x y) (λ (t : Told). answer.Told t.count t.cells) told × (after ≡ before) × (new ≡ old)
StepOf {X} {C} k le (shares x y) bytes before after old new told =
    Answered (share_questions before x y) (ShareAnswer {C = C} le before x y) (λ share. answer.Share share) told × (after ≡ before) × (new ≡ old)
StepOf {X} {C} k le (nears x y) bytes before after old new told =
    Answered (nearest_questions before x y) (NearestAnswer {C = C} le before x y) (λ found. answer.Nearest found) told × (after ≡ before) × (new ≡ old)
StepOf {X} {C} k le totals bytes before after old new told =
    Answered (total_questions before) (TotalAnswer {C = C} le before) (λ sum. answer.Total sum) told × (after ≡ before) × (new ≡ old)

-- an event took place as the box's call promises
abbrev pub Step : {X C : Type 0} → Storage X C → (X → X → Bool) → Event X → Type 0
Step k le e = StepOf k le (form e.call) (brought e.call) e.before e.after e.old e.new e.answer

-- the event is the call number i to this box, which is lent one of its counters, each in its turn: of n counters the one with
-- the number i % n
pub record Turn {X C : Type 0} (k : Storage X C) (le : X → X → Bool) (i : ℕ) (b : Contents X) (counters : List (View X)) (e : Event X) : Type 0 where
  pub box_is : e.before ≡ b
  pub counter_is : slice_get counters (i % length counters) ≡ Some e.old
  pub step : Step k le e

-- what the counters show once the call number i changed the one that was its turn
abbrev pub counters_after : {X : Type 0} → ℕ → List (View X) → View X → List (View X)
counters_after i counters new = slice_set counters (i % length counters) new

-- the trace of a box: the events came to it one after another, from number i on, each working on what the earlier ones left, and
-- the last left this box and these counters
abbrev pub Trace : {X C : Type 0} → Storage X C → (X → X → Bool) → ℕ → Contents X → List (View X) → List (Event X) → Contents X → List (View X) → Type 0
Trace k le i b counters [] last left = (last ≡ b) × (left ≡ counters)
Trace k le i b counters (e ∷ events) last left = Turn k le i b counters e × Trace k le (suc i) e.after (counters_after i counters e.new) events last left

-- the calls of a list came to a box, with these counters in turn: they are the calls of these events, the last of which left this
-- box and these counters, and the answers were noted at the front of a memory
pub record Traced {X C : Type 0} (k : Storage X C) (le : X → X → Bool) (start last : Contents X) (counters left : List (View X)) (calls : List Call) (memory noted : List Answer) (events : List (Event X)) : Type 0 where
  pub trace : Trace k le 0 start counters events last left
  pub calls_are : map (λ e. e.call) events ≡ calls
  pub answers_are : noted ≡ map (λ e. e.answer) events ++ drop (length calls) memory

-- what the call number i of a list does: an event with the counter whose turn it is, whose answer is noted in its place
pub record TookTurn {X C : Type 0} (k : Storage X C) (le : X → X → Bool) (i : ℕ) (calls : List Call) (before after : Contents X) (counters left : List (View X)) (memory noted : List Answer) (told : Answer) : Type 0 where
  pub event : Event X
  pub turn : Turn k le i before counters event
  pub call_is : slice_get calls i ≡ Some event.call
  pub after_is : after ≡ event.after
  pub left_is : left ≡ counters_after i counters event.new
  pub noted_is : noted ≡ slice_set memory i event.answer
  pub told_is : told ≡ event.answer
