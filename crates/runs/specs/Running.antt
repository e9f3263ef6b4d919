-- What the calls of a list do to a box one after another, and what is seen of it after each.
use Rattle.std.specs.Prelude.{◌≡◌, ℕ, Bool, List, [], ◌∷◌, Some, None, Ok, Err, Option, Result}
use Rattle.heights.specs.Meaning.{Storage}
use Rattle.counters.specs.Calls.{View}
use Rattle.grid.specs.declared.Higher.{Higher}
use Rattle.grid.specs.declared.Place.{Place}
use Rattle.grid.specs.declared.CellRecord.{CellRecord}
use Rattle.siting_box.specs.declared.denial.Denial.{Denial}
use Rattle.siting_box.specs.declared.denial.Denial.TheVariants.{NoPlan, Sizes, TooFewRecords, Outside, StoredLength, Unread, NoRowLeft, TooFewPlaces, NotSwept, RowsLeft}
use Rattle.siting_box.specs.Contents.{Contents, contents, counts_on, total_on}
use Rattle.siting_box.specs.Denials.{number, denied_by, first_no}
use Rattle.siting_box.specs.Calls.{open_questions, OpenLeaves, alter_questions, AlterLeaves, sweep_questions, SweepLeaves, tell_questions, TellAnswer, share_questions, ShareAnswer, nearest_questions, NearestAnswer, total_questions}
use Rattle.runs.specs.declared.call.Call.{Call}
use Rattle.runs.specs.Calling.{Form, opens, alters, sweeps, tells, shares, nears, totals, form, brought}

-- what a call shows, without causes and steps: the number of its denial, with the cell if a stored height did not read; or its answer
pub data Outcome : Type 0 where
  denied : ℕ → Option Place → Outcome
  done : Outcome
  swept : Outcome
  told : (count cells : ℕ) → Outcome
  shared : ℕ → Outcome
  nearest : Option Higher → Outcome
  totalled : ℕ → Outcome

-- the cell that a denial carries
abbrev pub cell_of : {C : Type 0} → Denial C → Option Place
cell_of NoPlan = None
cell_of Sizes = None
cell_of TooFewRecords = None
cell_of Outside = None
cell_of StoredLength = None
cell_of (Unread cause at) = Some at
cell_of NoRowLeft = None
cell_of TooFewPlaces = None
cell_of NotSwept = None
cell_of RowsLeft = None

-- what the result of a call shows
abbrev pub outcome_of : {A C : Type 0} → (A → Outcome) → Result A (Denial C) → Outcome
outcome_of shows (Ok answer) = shows answer
outcome_of shows (Err denial) = denied (number denial) (cell_of denial)

-- what total shows: the number of the question that was answered no, or the sum
abbrev pub total_shows : Option ℕ → ℕ → Outcome
total_shows (Some n) sum = denied n None
total_shows None sum = totalled sum

-- a call was answered as its questions and its contract say, and shows this outcome
pub record Answered {A C : Type 0} (questions : List (ℕ × Bool)) (Leaves : Result A (Denial C) → Type 0) (shows : A → Outcome) (outcome : Outcome) : Type 0 where
  pub result : Result A (Denial C)
  pub denial : denied_by result ≡ first_no questions
  pub leaves : Leaves result
  pub shown : outcome ≡ outcome_of shows result

-- a call that changes nothing
pub record Asked {A C X : Type 0} (before after : Contents X) (questions : List (ℕ × Bool)) (Answers : Result A (Denial C) → Type 0) (shows : A → Outcome) (outcome : Outcome) : Type 0 where
  pub unchanged : after ≡ before
  pub answered : Answered questions Answers shows outcome

-- what a call of this form with these bytes makes of a box, with a counter that showed `old` before it and shows `new` after it
abbrev pub StepOf : {X C : Type 0} → Storage X C → (X → X → Bool) → Form → List ℕ → (before after : Contents X) → (old new : View X) → Outcome → Type 0
StepOf k le (opens width rows radius) bytes before after old new outcome =
    Answered (open_questions k before width rows radius bytes) (OpenLeaves k width rows radius bytes before after) (λ _. done) outcome
StepOf k le (alters x y) bytes before after old new outcome =
    Answered (alter_questions k before x y bytes) (AlterLeaves k le x y bytes before after) (λ _. done) outcome
StepOf {X} {C} k le sweeps bytes before after old new outcome =
    Answered (sweep_questions before old.places) (SweepLeaves {C = C} le before after old new) (λ _. swept) outcome
StepOf {X} {C} k le (tells x y) bytes before after old new outcome =
    Asked before after (tell_questions before x y) (TellAnswer {C = C} le before x y) (λ t. told t.count t.cells) outcome
StepOf {X} {C} k le (shares x y) bytes before after old new outcome =
    Asked before after (share_questions before x y) (ShareAnswer {C = C} le before x y) shared outcome
StepOf {X} {C} k le (nears x y) bytes before after old new outcome =
    Asked before after (nearest_questions before x y) (NearestAnswer {C = C} le before x y) nearest outcome
StepOf k le totals bytes before after old new outcome =
    (after ≡ before) × (outcome ≡ total_shows (first_no (total_questions before)) (total_on before))

-- the same of a call
abbrev pub Step : {X C : Type 0} → Storage X C → (X → X → Bool) → Call → (before after : Contents X) → (old new : View X) → Outcome → Type 0
Step k le c before after old new outcome = StepOf k le (form c) (brought c) before after old new outcome

-- what is seen of a box after a call: the outcome, and every count on record
pub record Sight : Type 0 where
  pub outcome : Outcome
  pub counts : List ℕ

-- a call turned a box into another one, and this was seen; a counter of so many places was at hand
pub record Turn {X C : Type 0} (k : Storage X C) (le : X → X → Bool) (c : Call) (places : ℕ) (before after : Contents X) (sight : Sight) : Type 0 where
  pub old : View X
  pub new : View X
  pub places_are : old.places ≡ places
  pub step : Step k le c before after old new sight.outcome
  pub counts_are : sight.counts ≡ counts_on after

-- the calls came to a box one after another, each with a counter of so many places at hand; this was seen after each, and left the
-- last box
abbrev pub Run : {X C : Type 0} → Storage X C → (X → X → Bool) → Contents X → List Call → List ℕ → List Sight → Contents X → Type 0
Run k le b [] [] [] last = last ≡ b
Run k le b [] [] (s ∷ sights) last = ⊥
Run k le b [] (n ∷ places) sights last = ⊥
Run k le b (c ∷ calls) [] sights last = ⊥
Run k le b (c ∷ calls) (n ∷ places) [] last = ⊥
Run {X} {C} k le b (c ∷ calls) (n ∷ places) (s ∷ sights) last = (after : Contents X) × Turn k le c n b after s × Run k le after calls places sights last

-- a box that holds no plan, over these records
abbrev pub new_box : {X : Type 0} → List (CellRecord X) → Contents X
new_box records = contents None records
