-- The steps of a whole sweep in the trace of a box.
use Rattle.std.proofs.Common.{◌≡◌, ℕ, zero, suc, ◌+◌, ◌-◌, ◌*◌, ◌<◌, ◌≤◌, Bool, true, false, cond, eqb, List, [], ◌∷◌, ◌++◌, length, take, drop, Some, None, Ok, Err, sum_by, Option, Result, sym, refl, ap, ◌∙◌, subst, arith}
use Rattle.std.proofs.lemmas.Option.{same_Some}
use Rattle.std.specs.List.{range_with_len, AllByRecursion as All}
use Rattle.std.proofs.lemmas.List.{take_at, length-take-le}
use Rattle.std.proofs.lemmas.List.Sums.{sum_by-cons}
use Rattle.std.proofs.lemmas.Bool.{eqb-true, eq-eqb, ne_eqb, true≢false}
use Rattle.heights.specs.Meaning.{Storage}
use Rattle.heights.specs.Order.{Preorder}
use Rattle.counters.specs.Calls.{View}
use Rattle.counters.specs.Fingers.{by_fingers}
use Rattle.grid.specs.declared.Plan.{Plan}
use Rattle.grid.specs.declared.CellRecord.{CellRecord}
use Rattle.grid.specs.Terrain.{Terrain, heights_of}
use Rattle.ceiling.specs.Roughness.{FingerSwept}
use Rattle.ceiling.proofs.Ceiling.{ceiling}
use Rattle.siting_box.specs.declared.denial.Denial.{Denial}
use Rattle.siting_box.specs.Contents.{Contents, fits_in, well_fitted, plan_terrain, radius_of, all_swept}
use Rattle.siting_box.specs.Denials.{denied_by, first_no}
use Rattle.siting_box.specs.Calls.{SweptPlan, SweepLeaves, OpenLeaves, AlterLeaves, sweep_questions, row_left, with_row}
use Rattle.siting_box.proofs.Plans.{fitting}
use Rattle.two_boxes.specs.declared.answer.Answer.{Answer}
use Rattle.two_boxes.specs.declared.answer.Answer.TheVariants as answer
use Rattle.runs.specs.Calling.{Form, opens, alters, sweeps, tells, shares, nears, totals, form, brought}
use Rattle.runs.specs.Running.{new_box}
use Rattle.two_boxes.specs.Running.{Event, answer_of, StepOf, Trace, counters_after}
use Rattle.two_boxes.specs.Agreeing.{steps_told, ByFingers, none_swept, box_after, SweepsBounded}
use Rattle.runs.proofs.Cells.{all_yes}
use Rattle.runs.proofs.Grids.{all_heights}
use Rattle.runs.proofs.Miles.{row_swept}
use Rattle.two_boxes.proofs.Miles.{no_steps}
use Rattle.two_boxes.proofs.Traces.{Good, new_good, turn_good, later}

-- an event among those of a whole sweep: it leaves the box and tells no steps, or it is an accepted sweep
data Quiet {X : Type 0} (le : X → X → Bool) (before after : Contents X) (old new : View X) (told : Answer) : Type 0 where
  idle : after ≡ before → steps_told told ≡ 0 → Quiet le before after old new told
  accepted : (steps : ℕ) → told ≡ answer.Swept steps → row_left before.plan ≡ true → SweptPlan le before after old new steps → Quiet le before after old new told

module _ {X C : Type 0} (k : Storage X C) (le : X → X → Bool) (before after : Contents X) (old new : View X) (told : Answer) where
  -- an open or alter that is not accepted
  open_quiet : (width rows radius : ℕ) (bytes : List ℕ) (r : Result Unit (Denial C)) → told ≡ answer_of (λ _. answer.Done) r → OpenLeaves k width rows radius bytes before after r → (told ≡ answer.Done → ⊥) → Quiet le before after old new told
  open_quiet width rows radius bytes (Ok a) e l other = absurd (other e)
  open_quiet width rows radius bytes (Err d) e l other = idle l.0 (ap steps_told e)

  alter_quiet : (x y : ℕ) (bytes : List ℕ) (r : Result Unit (Denial C)) → told ≡ answer_of (λ _. answer.Done) r → AlterLeaves k le x y bytes before after r → (told ≡ answer.Done → ⊥) → Quiet le before after old new told
  alter_quiet x y bytes (Ok a) e l other = absurd (other e)
  alter_quiet x y bytes (Err d) e l other = idle l.0 (ap steps_told e)

  sweep_quiet : (r : Result ℕ (Denial C)) → told ≡ answer_of (λ steps. answer.Swept steps) r → denied_by r ≡ first_no (sweep_questions before old.places) → SweepLeaves le before after old new r → Quiet le before after old new told
  sweep_quiet (Ok steps) e q l = accepted steps e (all_yes (sweep_questions before old.places) (sym q)).1.0 l
  sweep_quiet (Err d) e q l = idle l.0 (ap steps_told e)

  quiet : (f : Form) (bytes : List ℕ) → StepOf k le f bytes before after old new told → (told ≡ answer.Done → ⊥) → Quiet le before after old new told
  quiet (opens width rows radius) bytes s other = open_quiet width rows radius bytes s.0.result s.0.told_is s.0.kept other
  quiet (alters x y) bytes s other = alter_quiet x y bytes s.0.result s.0.told_is s.0.kept other
  quiet sweeps bytes s other = sweep_quiet s.result s.told_is s.denial s.kept
  quiet (tells x y) bytes s other = idle s.1 (no_steps _ s.0.result told (λ _. refl) s.0.told_is)
  quiet (shares x y) bytes s other = idle s.1 (no_steps _ s.0.result told (λ _. refl) s.0.told_is)
  quiet (nears x y) bytes s other = idle s.1 (no_steps _ s.0.result told (λ _. refl) s.0.told_is)
  quiet totals bytes s other = idle s.1 (no_steps _ s.0.result told (λ _. refl) s.0.told_is)

-- the box after some events
abbrev box_left : {X : Type 0} → Contents X → List (Event X) → Contents X
box_left b [] = b
box_left b (e ∷ events) = box_left e.after events

-- a plan of this grid and radius with so many rows swept
record At {X : Type 0} (b : Contents X) (t : Terrain X) (r swept : ℕ) : Type 0 where
  plan : Plan
  plan_is : b.plan ≡ Some plan
  grid_is : plan_terrain (Some plan) b.records ≡ t
  radius_is : plan.radius ≡ r
  swept_is : plan.swept ≡ swept

-- the rows from one on to just before another were swept with finger lists, and took so many steps together
record Rows {X : Type 0} (le : X → X → Bool) (t : Terrain X) (r from to steps : ℕ) : Type 0 where
  mileages : ℕ → ℕ
  rows : (y : ℕ) → from ≤ y → y < to → FingerSwept le t r y (mileages y)
  sum_is : steps ≡ sum_by mileages (range_with_len from (to - from))

sum_same : (f g : ℕ → ℕ) (a n : ℕ) → ((i : ℕ) → a ≤ i → f i ≡ g i) → sum_by f (range_with_len a n) ≡ sum_by g (range_with_len a n)
sum_same f g a zero e = refl
sum_same f g a (suc n) e =
    sum_by-cons f a (range_with_len (a + 1) n) ∙ ap (λ m. m + sum_by f (range_with_len (a + 1) n)) (e a (omega arith)) ∙ ap (λ m. g a + m) (sum_same f g (a + 1) n (λ i h. e i (omega arith))) ∙ sym (sum_by-cons g a (range_with_len (a + 1) n))

-- one row before the others
row_more : {X : Type 0} (le : X → X → Bool) (t : Terrain X) (r from to steps more : ℕ) → from < to → FingerSwept le t r from steps → Rows le t r (from + 1) to more → Rows le t r from to (steps + more)
row_more le t r from to steps more left row rest =
    let mileages : ℕ → ℕ = λ y. cond (eqb y from) steps (rest.mileages y) in
    let first : mileages from ≡ steps = ap (λ b. cond b steps (rest.mileages from)) (eq-eqb from from refl) in
    let other : (y : ℕ) → from + 1 ≤ y → mileages y ≡ rest.mileages y = λ y h. ap (λ b. cond b steps (rest.mileages y)) (ne_eqb y from (λ e. omega arith)) in
    let later = sum_same mileages rest.mileages (from + 1) (to - (from + 1)) other in
    let sums = rest.sum_is in
    let one_more : to - from ≡ suc (to - (from + 1)) = omega arith in
    record {
      mileages = mileages;
      rows = λ y low high. by_row y low high (eqb y from) refl mileages first other;
      sum_is = (let here : sum_by mileages (from ∷ range_with_len (from + 1) (to - (from + 1))) ≡ mileages from + sum_by mileages (range_with_len (from + 1) (to - (from + 1))) = sum_by-cons mileages from (range_with_len (from + 1) (to - (from + 1))) in omega arith) ∙ ap (λ n. sum_by mileages (range_with_len from n)) (sym one_more);
    }
  where
    by_row : (y : ℕ) → from ≤ y → y < to → (b : Bool) → eqb y from ≡ b → (m : ℕ → ℕ) → m from ≡ steps → ((z : ℕ) → from + 1 ≤ z → m z ≡ rest.mileages z) → FingerSwept le t r y (m y)
    by_row y low high true e m first other =
        let same : from ≡ y = sym (eqb-true y from e) in
        subst (λ z. FingerSwept le t r z (m z)) same (subst (λ n. FingerSwept le t r from n) (sym first) row)
    by_row y low high false e m first other =
        let apart : y ≡ from → ⊥ = λ same. true≢false (sym (eq-eqb y from same) ∙ e) in
        let above : from + 1 ≤ y = omega arith in
        subst (λ n. FingerSwept le t r y n) (sym (other y above)) (rest.rows y above high)

-- after an accepted sweep the box is at the same grid, one row further
swept_at : {X : Type 0} (le : X → X → Bool) (before after : Contents X) (old new : View X) (steps : ℕ) (t : Terrain X) (r swept : ℕ) → well_fitted before.plan (length before.records) ≡ true → At before t r swept → SweptPlan le before after old new steps → At after t r (swept + 1)
swept_at {X} le before after old new steps t r swept fits at s =
    let p = s.plan in
    let same : at.plan ≡ s.plan = same_Some at.plan s.plan (sym at.plan_is ∙ s.plan_is) in
    let n = p.width * p.rows in
    let fit : fits_in p (length before.records) ≡ true = subst (λ o. well_fitted o (length before.records) ≡ true) s.plan_is fits in
    let room : p.width * p.rows ≤ length before.records = (fitting p (length before.records) fit).recorded in
    let long : length s.cells ≡ n = s.row.length_is ∙ length-take-le n before.records room in
    let front : take n after.records ≡ s.cells = ap (take n) s.records_after ∙ take_at s.cells (drop n before.records) n long in
    let kept : heights_of (take n after.records) ≡ heights_of (take n before.records) = ap heights_of front ∙ s.row.heights in
    record {
      plan = with_row p;
      plan_is = s.plan_after;
      grid_is = ap (λ (hs : List X). record { width = p.width; rows = p.rows; heights = hs }) kept ∙ sym (ap (λ q. plan_terrain (Some q) before.records) same) ∙ at.grid_is;
      radius_is = sym (ap (λ (q : Plan). q.radius) same) ∙ at.radius_is;
      swept_is = ap (λ n. n + 1) (sym (ap (λ (q : Plan). q.swept) same) ∙ at.swept_is);
    }

-- the row that a sweep counted by fingers swept
swept_row : {X : Type 0} (le : X → X → Bool) (before after : Contents X) (old new : View X) (steps : ℕ) (t : Terrain X) (r swept : ℕ) → At before t r swept → by_fingers old.rule ≡ true → SweptPlan le before after old new steps → FingerSwept le t r swept steps
swept_row le before after old new steps t r swept at fingers s =
    let same : s.plan ≡ at.plan = same_Some s.plan at.plan (sym s.plan_is ∙ at.plan_is) in
    let here = row_swept le before after old new steps s fingers in
    let moved : FingerSwept le (plan_terrain (Some at.plan) before.records) at.plan.radius at.plan.swept steps = subst (λ (q : Plan). FingerSwept le (plan_terrain (Some q) before.records) q.radius q.swept steps) same here in
    subst (λ u. FingerSwept le u r swept steps) at.grid_is (subst (λ n. FingerSwept le (plan_terrain (Some at.plan) before.records) n swept steps) at.radius_is (subst (λ n. FingerSwept le (plan_terrain (Some at.plan) before.records) at.plan.radius n steps) at.swept_is moved))

-- what a stretch of a trace that alters nothing has done: rows were swept from one on, and the box is at the same grid
record Stretch {X : Type 0} (le : X → X → Bool) (b : Contents X) (t : Terrain X) (r from : ℕ) (events : List (Event X)) : Type 0 where
  to : ℕ
  forward : from ≤ to
  at : At (box_left b events) t r to
  rows : Rows le t r from to (sum_by (λ e. steps_told e.answer) events)

abbrev steps_of : {X : Type 0} → Event X → ℕ
steps_of e = steps_told e.answer

-- an event before a stretch
event_more : {X : Type 0} (le : X → X → Bool) (t : Terrain X) (r from : ℕ) (b : Contents X) (e : Event X) (events : List (Event X)) → Good le e.before → At e.before t r from → ((steps : ℕ) → e.answer ≡ answer.Swept steps → ByFingers e)
    → ((next : ℕ) → At e.after t r next → Stretch le e.after t r next events) → Quiet le e.before e.after e.old e.new e.answer → Stretch le b t r from (e ∷ events)
event_more {X} le t r from b e events good start fingers again (idle same none) =
    let rest = again from (subst (λ c. At c t r from) (sym same) start) in
    let all : sum_by steps_of (e ∷ events) ≡ steps_told e.answer + sum_by steps_of events = sum_by-cons steps_of e events in
    let steps : sum_by steps_of events ≡ sum_by steps_of (e ∷ events) = omega arith in
    record { to = rest.to; forward = rest.forward; at = rest.at; rows = subst (λ n. Rows le t r from rest.to n) steps rest.rows }
event_more {X} le t r from b e events good start fingers again (accepted steps is left s) =
    let rest = again (from + 1) (swept_at le e.before e.after e.old e.new steps t r from good.fits start s) in
    let here = swept_row le e.before e.after e.old e.new steps t r from start (fingers steps is) s in
    let on : from + 1 ≤ rest.to = rest.forward in
    record {
      to = rest.to;
      forward = omega arith;
      at = rest.at;
      rows = subst (λ n. Rows le t r from rest.to n) (ap (λ n. n + sum_by steps_of events) (sym (ap steps_told is)) ∙ sym (sum_by-cons steps_of e events)) (row_more le t r from rest.to steps (sum_by steps_of events) (omega arith) here rest.rows);
    }

module _ {X C : Type 0} (k : Storage X C) (le : X → X → Bool) (t : Terrain X) (r : ℕ) (last : Contents X) (left : List (View X)) (after : List (Event X)) where
  stretch : (events : List (Event X)) (i : ℕ) (b : Contents X) (counters : List (View X)) (from : ℕ) → Good le b → At b t r from → Trace k le i b counters (events ++ after) last left → All (λ e. e.answer ≡ answer.Done → ⊥) events → All (λ e. (steps : ℕ) → e.answer ≡ answer.Swept steps → ByFingers e) events → Stretch le b t r from events
  stretch [] i b counters from good at trace unaltered fingers = record {
    to = from;
    forward = omega arith;
    at = at;
    rows = record {
      mileages = λ _. 0;
      rows = λ y low high. absurd (omega arith);
      sum_is = let none : from - from ≡ 0 = omega arith in sym (ap (λ n. sum_by (λ (_ : ℕ). 0) (range_with_len from n)) none);
    };
  }
  stretch (e ∷ events) i b counters from good at trace unaltered fingers =
      event_more le t r from b e events (subst (Good le) (sym trace.0.box_is) good) (subst (λ c. At c t r from) (sym trace.0.box_is) at) fingers.0
      (λ next here. stretch events (suc i) e.after (counters_after i counters e.new) next (turn_good k le i b counters e trace.0 good) here trace.1 unaltered.1 fingers.1)
      (quiet k le e.before e.after e.old e.new e.answer (form e.call) (brought e.call) trace.0.step unaltered.0)

box_after_is : {X : Type 0} (first : Event X) (rest : List (Event X)) → box_after first rest ≡ box_left first.after rest
box_after_is first [] = refl
box_after_is first (e ∷ rest) = box_after_is e rest

-- a plan of which no row is swept
none_at : {X : Type 0} (b : Contents X) (o : Option Plan) → b.plan ≡ o → none_swept o ≡ true → At b (plan_terrain o b.records) (radius_of o) 0
none_at b None e none = absurd (true≢false (sym none))
none_at b (Some p) e none = record { plan = p; plan_is = e; grid_is = refl; radius_is = refl; swept_is = eqb-true p.swept 0 none }

-- all rows of the plan are swept
all_at : {X : Type 0} (b : Contents X) (t : Terrain X) (r swept : ℕ) → At b t r swept → all_swept b.plan ≡ true → t.rows ≡ swept
all_at {X} b t r swept at all =
    let test : all_swept (Some at.plan) ≡ true = ap all_swept (sym at.plan_is) ∙ all in
    sym (ap (λ (u : Terrain X). u.rows) at.grid_is) ∙ sym (eqb-true at.plan.swept at.plan.rows test) ∙ at.swept_is

-- every whole sweep in the trace of a new box keeps the ceiling
pub sweeps_bounded : {X C : Type 0} (k : Storage X C) (le : X → X → Bool) → Preorder le → (records : List (CellRecord X)) (counters left : List (View X)) (events : List (Event X)) (last : Contents X) → Trace k le 0 (new_box records) counters events last left → SweepsBounded le events
sweeps_bounded {X} {C} k le ordered records counters left events last trace earlier first rest after is w =
    let parts = subst (λ (es : List (Event X)). Trace k le 0 (new_box records) counters es last left) is trace in
    let l = later k le 0 (new_box records) last counters left earlier ((first ∷ rest) ++ after) (new_good le records) parts in
    let box_is : first.before ≡ l.b = l.trace.0.box_is in
    let good : Good le first.before = subst (Good le) (sym box_is) l.good in
    let b = first.before in
    let t = plan_terrain b.plan b.records in
    let r = radius_of b.plan in
    let start : At b t r 0 = none_at b b.plan refl w.starts in
    let fit : fits_in start.plan (length b.records) ≡ true = subst (λ o. well_fitted o (length b.records) ≡ true) start.plan_is good.fits in
    let facts = fitting start.plan (length b.records) fit in
    let wide : 1 ≤ t.width = subst (λ (u : Terrain X). 1 ≤ u.width) start.grid_is facts.some_columns in
    let far : 1 ≤ r = subst (λ n. 1 ≤ n) start.radius_is facts.some_radius in
    let done = stretch k le t r last left after (first ∷ rest) l.i l.b l.counters 0 l.good (subst (λ c. At c t r 0) box_is start) l.trace w.unaltered w.by_fingers in
    let all : t.rows ≡ done.to = all_at (box_left first.after rest) t r done.to done.at (ap (λ (c : Contents X). all_swept c.plan) (sym (box_after_is first rest)) ∙ w.ends) in
    let limit = ceiling ordered t r done.rows.mileages (all_heights b.plan b.records good.fits) wide far (λ y h. done.rows.rows y (omega arith) (omega arith)) in
    let count : done.to - 0 ≡ t.rows = omega arith in
    let sums = done.rows.sum_is ∙ ap (λ n. sum_by done.rows.mileages (range_with_len 0 n)) count in
    omega arith
