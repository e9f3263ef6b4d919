-- The law of two boxes: what two boxes share that matching lists of calls come to.
use Rattle.std.specs.Prelude.{◌≡◌, ℕ, ◌+◌, ◌*◌, ◌≤◌, Bool, true, false, List, [], ◌∷◌, ◌++◌, length, Some, None, sum_by, Option, ◌==◌, ◌≢◌}
use Rattle.std.specs.List.{AllByRecursion}
use Rattle.heights.specs.Meaning.{Storage}
use Rattle.counters.specs.Calls.{View}
use Rattle.counters.specs.Fingers.{by_fingers}
use Rattle.grid.specs.declared.Plan.{Plan}
use Rattle.pairs.specs.Totals.{cells_and_pairs}
use Rattle.ceiling.specs.Roughness.{roughness}
use Rattle.siting_box.specs.Contents.{Contents, plan_terrain, radius_of, all_swept, counts_on, total_on, Counted}
use Rattle.runs.specs.declared.call.Call.{Call}
use Rattle.two_boxes.specs.declared.answer.Answer.{Answer}
use Rattle.two_boxes.specs.declared.answer.Answer.TheVariants.{Denied, Done, Swept, Told, Share, Nearest, Total}
use Rattle.runs.specs.Pointwise.{Pointwise}
use Rattle.runs.specs.Matching.{Matched}
use Rattle.two_boxes.specs.Matching.{EqualPlacesInTurn}
use Rattle.two_boxes.specs.Running.{Event}

-- an answer less the steps
abbrev pub less_steps : Answer → Answer
less_steps (Denied number cell) = Denied number cell
less_steps Done = Done
less_steps (Swept steps) = Swept 0
less_steps (Told count cells) = Told count cells
less_steps (Share thousandths) = Share thousandths
less_steps (Nearest found) = Nearest found
less_steps (Total sum) = Total sum

-- the steps that an answer tells: those of a row, to an accepted sweep
abbrev pub steps_told : Answer → ℕ
steps_told (Denied number cell) = 0
steps_told Done = 0
steps_told (Swept steps) = steps
steps_told (Told count cells) = 0
steps_told (Share thousandths) = 0
steps_told (Nearest found) = 0
steps_told (Total sum) = 0

-- the cells of a box's plan, plus the pairs of cells in reach of each other, plus those of these pairs that are level
abbrev pub defined_total : {X : Type 0} → (X → X → Bool) → Contents X → ℕ
defined_total le b = cells_and_pairs le (plan_terrain b.plan b.records) (radius_of b.plan)

-- two boxes have this total on record, and it is the defined one in each
pub record SameTotal {X Y : Type 0} (le : X → X → Bool) (le' : Y → Y → Bool) (b : Contents X) (b' : Contents Y) : Type 0 where
  pub shared : total_on b ≡ total_on b'
  pub defined : total_on b ≡ defined_total le b
  pub defined' : total_on b' ≡ defined_total le' b'

-- a finger list counts in an event, bare or under a layer
abbrev pub ByFingers : {X : Type 0} → Event X → Type 0
ByFingers e = by_fingers e.old.rule ≡ true

-- what two boxes share after a call each
pub record Shared {X Y : Type 0} (le : X → X → Bool) (le' : Y → Y → Bool) (e : Event X) (e' : Event Y) : Type 0 where
  -- its denial, by number and cell, or its answer less the steps
  pub answer : less_steps e.answer ≡ less_steps e'.answer
  -- the plan's sizes and how many rows are swept
  pub plan : e.after.plan ≡ e'.after.plan
  -- every count on record
  pub counts : counts_on e.after ≡ counts_on e'.after
  -- which is the defined one in swept rows and 0 elsewhere, in either box
  pub defined : Counted le e.after
  pub defined' : Counted le' e'.after
  -- once all rows are swept, the total
  pub total : all_swept e.after.plan ≡ true → SameTotal le le' e.after e'.after
  -- a row's steps, if finger lists count in both
  pub steps : ByFingers e → ByFingers e' → steps_told e.answer ≡ steps_told e'.answer

-- there is a plan, and none of its rows is swept
abbrev pub none_swept : Option Plan → Bool
none_swept None = false
none_swept (Some p) = p.swept == 0

-- the box after an event and those that follow it
abbrev pub box_after : {X : Type 0} → Event X → List (Event X) → Contents X
box_after first [] = first.after
box_after first (e ∷ rest) = box_after e rest

-- a whole sweep: events that find no row of a plan swept and leave all its rows swept, where each row is counted by a finger list,
-- and no open and no alter is accepted among them; an accepted open or alter is what answers Done
pub record WholeSweep {X : Type 0} (first : Event X) (rest : List (Event X)) : Type 0 where
  pub starts : none_swept first.before.plan ≡ true
  pub ends : all_swept (box_after first rest).plan ≡ true
  pub unaltered : AllByRecursion (λ e. e.answer ≢ Done) (first ∷ rest)
  pub by_fingers : AllByRecursion (λ e. (steps : ℕ) → e.answer ≡ Swept steps → ByFingers e) (first ∷ rest)

-- every whole sweep in a box's trace takes at most 4 r + 1 times the roughness of the heights that it finds; other calls may come
-- before it, between its rows and after it
abbrev pub SweepsBounded : {X : Type 0} → (X → X → Bool) → List (Event X) → Type 0
SweepsBounded {X} le events =
    (earlier : List (Event X)) (first : Event X) (rest later : List (Event X)) → events ≡ earlier ++ ((first ∷ rest) ++ later) → WholeSweep first rest
    → sum_by (λ e. steps_told e.answer) (first ∷ rest) ≤ (4 * radius_of first.before.plan + 1) * roughness le (plan_terrain first.before.plan first.before.records)

-- the law of two boxes, of the events that came to each: what they share after each call, without exception, and the ceiling on the
-- steps of whole sweeps in either box
pub record TwoBoxes {X Y : Type 0} (le : X → X → Bool) (le' : Y → Y → Bool) (events : List (Event X)) (events' : List (Event Y)) : Type 0 where
  pub after_each_call : Pointwise (Shared le le') events events'
  pub ceiling : SweepsBounded le events
  pub ceiling' : SweepsBounded le' events'

-- what the law asks: two new boxes, which hold no plan, with equally many records; matching lists of calls; and counters with equally
-- many places for partnered sweeps
pub record Partnered {X C Y D : Type 0} (k : Storage X C) (k' : Storage Y D) (le : X → X → Bool) (le' : Y → Y → Bool) (b : Contents X) (b' : Contents Y) (counters : List (View X)) (counters' : List (View Y)) (calls calls' : List Call) : Type 0 where
  pub no_plan : b.plan ≡ None
  pub no_plan' : b'.plan ≡ None
  pub records : length b.records ≡ length b'.records
  pub lists : Matched k k' le le' calls calls'
  pub places : EqualPlacesInTurn calls counters counters'
