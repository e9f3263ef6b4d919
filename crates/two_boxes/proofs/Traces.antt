-- What the calls keep over the trace of a box, and what two boxes share after each call.
use Rattle.std.proofs.Common.{◌≡◌, ℕ, suc, ◌+◌, ◌%◌, ◌<◌, Bool, true, List, [], ◌∷◌, ◌++◌, map, length, Some, Ok, sum, Result, sym, refl, ap, ◌∙◌, subst, arith}
use Rattle.std.proofs.lemmas.List.{length-map}
use Rattle.std.specs.List.{slice_get}
use Rattle.heights.specs.Meaning.{Storage}
use Rattle.heights.specs.Order.{Preorder}
use Rattle.counters.specs.Calls.{View}
use Rattle.grid.specs.declared.CellRecord.{CellRecord}
use Rattle.siting_box.specs.Contents.{Contents, well_fitted, plan_terrain, all_swept, counts_on, Counted}
use Rattle.siting_box.proofs.Totals.{total_defined}
use Rattle.runs.specs.Calling.{sweeps, form, brought, brings}
use Rattle.runs.specs.Matching.{ReadAt, Matched}
use Rattle.two_boxes.specs.Matching.{EqualPlacesInTurn}
use Rattle.runs.specs.Running.{new_box}
use Rattle.two_boxes.specs.Running.{Event, Step, StepOf, Turn, Trace, counters_after}
use Rattle.runs.specs.Pointwise.{Pointwise}
use Rattle.two_boxes.specs.Agreeing.{SameTotal, Shared}
use Rattle.runs.proofs.Couples.{Compares, nth_map}
use Rattle.runs.proofs.Readings.{one_alike, Coupled, coupled}
use Rattle.runs.proofs.Boxes.{Paired, new_paired}
use Rattle.runs.proofs.Counts.{paired_counts}
use Rattle.two_boxes.proofs.Steps.{step_together, step_keeps}
use Rattle.two_boxes.proofs.Miles.{step_miles}
use Rattle.two_boxes.proofs.Places.{trace_places}

-- ---- one box

-- the plan fits into the records, and the counts are the defined ones
pub record Good {X : Type 0} (le : X → X → Bool) (b : Contents X) : Type 0 where
  pub fits : well_fitted b.plan (length b.records) ≡ true
  pub counted : Counted le b

-- so it is of a new box: it has no cell
pub new_good : {X : Type 0} (le : X → X → Bool) (records : List (CellRecord X)) → Good le (new_box records)
new_good le records = record { fits = refl; counted = λ q inside. let none : q.x < 0 = inside.0 in absurd (omega arith) }

both_same : {X : Type 0} (xs : List X) → Pointwise ◌≡◌ xs xs
both_same [] = tt
both_same (x ∷ xs) = (refl, both_same xs)

-- a box is paired with itself, height by height
self_paired : {X : Type 0} (b : Contents X) → well_fitted b.plan (length b.records) ≡ true → Paired ◌≡◌ b b
self_paired b fits = record { plans = refl; fitted = refl; fits = fits; cells = both_same (plan_terrain b.plan b.records).heights }

same_ok : {X C : Type 0} (s : Result X C) (x y : X) → s ≡ Ok x → s ≡ Ok y → x ≡ y
same_ok s x y e f = cc

-- bytes are coupled with themselves
self_coupled : {X C : Type 0} (k : Storage X C) (n : ℕ) (bytes : List ℕ) → Coupled ◌≡◌ k k n bytes bytes
self_coupled k n bytes = record { lengths = refl; readings = λ long i lt. one_alike ◌≡◌ _ _ refl (λ x y e f. same_ok _ x y e f) }

-- equal heights compare alike
self_compares : {X : Type 0} (le : X → X → Bool) → Compares le le ◌≡◌
self_compares le a b a' b' e f = ap (λ x. le x b) e ∙ ap (le a') f

-- each call keeps a box good
pub step_good : {X C : Type 0} (k : Storage X C) (le : X → X → Bool) (e : Event X) → Step k le e → Good le e.before → Good le e.after
step_good k le e step good = record {
  fits = (step_together ◌≡◌ k k le le e.before e.after e.before e.after (self_paired e.before good.fits) (form e.call) (brought e.call) (brought e.call) e.old e.new e.old e.new e.answer e.answer (self_compares le) (self_coupled k (brings (form e.call)) (brought e.call)) (λ _. refl) good.counted good.counted step step).paired.fits;
  counted = step_keeps k le (form e.call) (brought e.call) e.before e.after e.old e.new e.answer good.fits good.counted step;
}

-- a later part of a trace is a trace, from a box that is good
pub record Later {X C : Type 0} (k : Storage X C) (le : X → X → Bool) (events : List (Event X)) (last : Contents X) (left : List (View X)) : Type 0 where
  pub i : ℕ
  pub b : Contents X
  pub counters : List (View X)
  pub good : Good le b
  pub trace : Trace k le i b counters events last left

pub turn_good : {X C : Type 0} (k : Storage X C) (le : X → X → Bool) (i : ℕ) (b : Contents X) (counters : List (View X)) (e : Event X) → Turn k le i b counters e → Good le b → Good le e.after
turn_good k le i b counters e t good = step_good k le e t.step (subst (Good le) (sym t.box_is) good)

pub later : {X C : Type 0} (k : Storage X C) (le : X → X → Bool) (i : ℕ) (b last : Contents X) (counters left : List (View X)) (earlier events : List (Event X)) → Good le b → Trace k le i b counters (earlier ++ events) last left → Later k le events last left
later k le i b last counters left [] events good trace = record { i = i; b = b; counters = counters; good = good; trace = trace }
later k le i b last counters left (e ∷ earlier) events good trace = later k le (suc i) e.after last (counters_after i counters e.new) left earlier events (turn_good k le i b counters e trace.0 good) trace.1

-- ---- two boxes

module _ {X C Y D : Type 0} (P : X → Y → Type 0) (k : Storage X C) (k' : Storage Y D) (le : X → X → Bool) (le' : Y → Y → Bool) (ordered : Preorder le) (ordered' : Preorder le') (iso : Compares le le' P) where
  -- two calls that agree in form, bring coupled bytes, and get counters with equally many places if they are sweeps
  record Partnered (e : Event X) (e' : Event Y) : Type 0 where
    forms : form e.call ≡ form e'.call
    bytes : Coupled P k k' (brings (form e.call)) (brought e.call) (brought e'.call)
    places : form e.call ≡ sweeps → e.old.places ≡ e'.old.places

  -- the boxes after a call each are paired and good, and share what they should
  record Going (e : Event X) (e' : Event Y) : Type 0 where
    paired : Paired P e.after e'.after
    good : Good le e.after
    good' : Good le' e'.after
    shared : Shared le le' e e'

  same_total : (b : Contents X) (b' : Contents Y) → Paired P b b' → Good le b → Good le' b' → counts_on b ≡ counts_on b' → all_swept b.plan ≡ true → SameTotal le le' b b'
  same_total b b' h good good' counts swept = record {
    shared = ap sum counts;
    defined = total_defined ordered b.plan b.records good.fits swept good.counted;
    defined' = total_defined ordered' b'.plan b'.records good'.fits (ap all_swept (sym h.plans) ∙ swept) good'.counted;
  }

  event_together : (e : Event X) (e' : Event Y) → Partnered e e' → Paired P e.before e'.before → Good le e.before → Good le' e'.before → Step k le e → Step k' le' e' → Going e e'
  event_together e e' p h good good' step step' =
      let f = form e.call in
      let s' : StepOf k' le' f (brought e'.call) e'.before e'.after e'.old e'.new e'.answer = subst (λ g. StepOf k' le' g (brought e'.call) e'.before e'.after e'.old e'.new e'.answer) (sym p.forms) step' in
      let both = step_together P k k' le le' e.before e.after e'.before e'.after h f (brought e.call) (brought e'.call) e.old e.new e'.old e'.new e.answer e'.answer iso p.bytes p.places good.counted good'.counted step s' in
      let after = step_good k le e step good in
      let after' = step_good k' le' e' step' good' in
      let counts = paired_counts P le le' e.after e'.after iso both.paired after.counted after'.counted in
      record {
        paired = both.paired;
        good = after;
        good' = after';
        shared = record {
          answer = both.answers;
          plan = both.paired.plans;
          counts = counts;
          defined = after.counted;
          defined' = after'.counted;
          total = same_total e.after e'.after both.paired after after' counts;
          steps = step_miles P k k' le le' ordered ordered' iso e.before e.after e'.before e'.after h e.old e.new e'.old e'.new e.answer e'.answer both.answers f (brought e.call) (brought e'.call) step s';
        };
      }

  -- from paired boxes on
  traces_together : (events : List (Event X)) (events' : List (Event Y)) (i i' : ℕ) (b last : Contents X) (b' last' : Contents Y) (counters left : List (View X)) (counters' left' : List (View Y)) → length events ≡ length events' → ((j : ℕ) (e : Event X) (e' : Event Y) → slice_get events j ≡ Some e → slice_get events' j ≡ Some e' → Partnered e e') → Paired P b b' → Good le b → Good le' b'
      → Trace k le i b counters events last left → Trace k' le' i' b' counters' events' last' left' → Pointwise (Shared le le') events events'
  traces_together [] [] i i' b last b' last' counters left counters' left' long partnered h good good' trace trace' = tt
  traces_together [] (e' ∷ events') i i' b last b' last' counters left counters' left' long partnered h good good' trace trace' = absurd (omega arith)
  traces_together (e ∷ events) [] i i' b last b' last' counters left counters' left' long partnered h good good' trace trace' = absurd (omega arith)
  traces_together (e ∷ events) (e' ∷ events') i i' b last b' last' counters left counters' left' long partnered h good good' trace trace' =
      let at = trace.0.box_is in
      let at' = trace'.0.box_is in
      let paired : Paired P e.before e'.before = subst (λ c. Paired P c e'.before) (sym at) (subst (λ c. Paired P b c) (sym at') h) in
      let now = event_together e e' (partnered 0 e e' refl refl) paired (subst (Good le) (sym at) good) (subst (Good le') (sym at') good') trace.0.step trace'.0.step in
      (now.shared, traces_together events events' (suc i) (suc i') e.after last e'.after last' (counters_after i counters e.new) left (counters_after i' counters' e'.new) left' (omega arith) (λ j. partnered (suc j)) now.paired now.good now.good' trace.1 trace'.1)

-- lives of new boxes that matching lists of calls come to
pub matched_traces : {X C Y D : Type 0} (k : Storage X C) (k' : Storage Y D) (le : X → X → Bool) (le' : Y → Y → Bool) → Preorder le → Preorder le' → (records : List (CellRecord X)) (records' : List (CellRecord Y)) (counters left : List (View X)) (counters' left' : List (View Y)) (events : List (Event X)) (events' : List (Event Y)) (last : Contents X) (last' : Contents Y)
    → length records ≡ length records' → Matched k k' le le' (map (λ e. e.call) events) (map (λ e. e.call) events') → EqualPlacesInTurn (map (λ e. e.call) events) counters counters' → Trace k le 0 (new_box records) counters events last left → Trace k' le' 0 (new_box records') counters' events' last' left' → Pointwise (Shared le le') events events'
matched_traces {X} {C} {Y} {D} k k' le le' ordered ordered' records records' counters left counters' left' events events' last last' fitted m equal trace trace' =
    let calls = map (λ (e : Event X). e.call) events in
    let calls' = map (λ (e : Event Y). e.call) events' in
    let long : length events ≡ length events' = sym (length-map events (λ (e : Event X). e.call)) ∙ m.long ∙ length-map events' (λ (e : Event Y). e.call) in
    traces_together (ReadAt k k' calls calls') k k' le le' ordered ordered' m.order events events' 0 0 (new_box records) last (new_box records') last' counters left counters' left' long
    (λ j e e' at at'.
    let here = nth_map (λ (f : Event X). f.call) events j e at in
    let here' = nth_map (λ (f : Event Y). f.call) events' j e' at' in
    let partners = m.partners j e.call e'.call here here' in
    let has = trace_places k le 0 j (new_box records) last counters left events e trace at in
    let has' = trace_places k' le' 0 j (new_box records') last' counters' left' events' e' trace' at' in
    let number : 0 + j ≡ j = omega arith in
    record {
      forms = partners.forms;
      bytes = coupled k k' calls calls' j e.call e'.call here here' partners;
      places = λ sweep. sym has.2 ∙ equal j e.call has.0 has'.0 here sweep (ap (λ n. slice_get counters (n % length counters)) (sym number) ∙ has.1) (ap (λ n. slice_get counters' (n % length counters')) (sym number) ∙ has'.1) ∙ has'.2;
    })
    (new_paired (ReadAt k k' calls calls') records records' fitted) (new_good le records) (new_good le' records') trace trace'
