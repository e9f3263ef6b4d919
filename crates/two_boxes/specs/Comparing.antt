-- What it is to compare two boxes over two lists of calls.
use Rattle.std.specs.Prelude.{◌≡◌, ℕ, ◌<◌, ◌≤◌, Bool, cond, ◌&&◌, List, length, take, Some, None, Option, ◌==◌, nat_le, nat_lt}
use Rattle.std.specs.List.{slice_get}
use Rattle.heights.specs.Meaning.{Storage}
use Rattle.counters.specs.Calls.{View}
use Rattle.siting_box.specs.Contents.{Contents, counts_on}
use Rattle.runs.specs.declared.call.Call.{Call}
use Rattle.two_boxes.specs.declared.answer.Answer.{Answer}
use Rattle.two_boxes.specs.declared.comparison.Comparison.{Comparison}
use Rattle.two_boxes.specs.declared.comparison.Comparison.TheVariants.{Agree, Differ}
use Rattle.two_boxes.specs.Running.{Event, Traced}
use Rattle.runs.specs.Pointwise.{Pointwise}
use Rattle.two_boxes.specs.Agreeing.{less_steps, Partnered, TwoBoxes}

-- two lists of calls can be compared: they are equally long, each box has a counter, and each memory has room for all answers
abbrev pub comparable : (calls calls' counters counters' room room' : ℕ) → Bool
comparable calls calls' counters counters' room room' = calls == calls' && nat_lt 0 counters && nat_lt 0 counters' && nat_le calls room && nat_le calls room'

-- the same, one by one
pub record Comparables (calls calls' counters counters' room room' : ℕ) : Type 0 where
  pub same_calls : calls ≡ calls'
  pub some_counter : 0 < counters
  pub some_counter' : 0 < counters'
  pub enough : calls ≤ room
  pub enough' : calls ≤ room'

-- two events look alike: the answers are equal less the steps, and so are the counts on record after them
abbrev pub LookAlike : {X Y : Type 0} → Event X → Event Y → Type 0
LookAlike e e' = (less_steps e.answer ≡ less_steps e'.answer) × (counts_on e.after ≡ counts_on e'.after)

-- which of the events are the first that do not look alike; none if all do
abbrev pub FirstApart : {X Y : Type 0} → List (Event X) → List (Event Y) → Option ℕ → Type 0
FirstApart events events' None = Pointwise LookAlike events events'
FirstApart {X} {Y} events events' (Some i) =
    (i < length events) × Pointwise LookAlike (take i events) (take i events') × ((e : Event X) (e' : Event Y) → slice_get events i ≡ Some e → slice_get events' i ≡ Some e' → LookAlike e e' → ⊥)

-- which are the first, with one more event each that look alike or not
abbrev pub apart_after : Option ℕ → ℕ → Bool → Option ℕ
apart_after (Some earlier) call alike = Some earlier
apart_after None call alike = cond alike None (Some call)

-- two lists of calls came to two boxes, and this was the first call after which they did not look alike
pub record BothCalled {X C Y D : Type 0} (k : Storage X C) (k' : Storage Y D) (le : X → X → Bool) (le' : Y → Y → Bool) (start last : Contents X) (start' last' : Contents Y) (counters left : List (View X)) (counters' left' : List (View Y)) (calls calls' : List Call) (memory noted memory' noted' : List Answer) (apart : Option ℕ) : Type 0 where
  pub events : List (Event X)
  pub events' : List (Event Y)
  pub traced : Traced k le start last counters left calls memory noted events
  pub traced' : Traced k' le' start' last' counters' left' calls' memory' noted' events'
  pub first_apart : FirstApart events events' apart

-- how a comparison ends
abbrev pub verdict : Option ℕ → Comparison
verdict None = Agree
verdict (Some i) = Differ i

-- both lists came to their boxes, the comparison told which call was the first after which these did not look alike, and the law of two
-- boxes holds: where the lists are partnered, the boxes share what they should, and the comparison tells that they agree
pub record RanBoth {X C Y D : Type 0} (k : Storage X C) (k' : Storage Y D) (le : X → X → Bool) (le' : Y → Y → Bool) (start last : Contents X) (start' last' : Contents Y) (counters left : List (View X)) (counters' left' : List (View Y)) (calls calls' : List Call) (memory noted memory' noted' : List Answer) (result : Comparison) : Type 0 where
  pub apart : Option ℕ
  pub result_is : result ≡ verdict apart
  pub called : BothCalled k k' le le' start last start' last' counters left counters' left' calls calls' memory noted memory' noted' apart
  pub law : Partnered k k' le le' start start' counters counters' calls calls' → TwoBoxes le le' called.events called.events' × (result ≡ Agree)
