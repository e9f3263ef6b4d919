-- The places of counters never change over the trace of a box.
use Rattle.std.proofs.Common.{◌≡◌, ℕ, zero, suc, ◌+◌, ◌%◌, Bool, List, [], ◌∷◌, length, set, Some, Ok, Err, Result, sym, refl, ap, ◌∙◌, subst, arith}
use Rattle.std.proofs.lemmas.Option.{same_Some}
use Rattle.std.specs.List.{slice_get}
use Rattle.std.proofs.lemmas.List.{length-set}
use Rattle.heights.specs.Meaning.{Storage}
use Rattle.counters.specs.Calls.{View}
use Rattle.sweep.proofs.Runs.{ran_places}
use Rattle.siting_box.specs.declared.denial.Denial.{Denial}
use Rattle.siting_box.specs.Contents.{Contents}
use Rattle.siting_box.specs.Calls.{SweepLeaves}
use Rattle.two_boxes.specs.declared.answer.Answer.{Answer}
use Rattle.runs.specs.Calling.{Form, opens, alters, sweeps, tells, shares, nears, totals, form, brought}
use Rattle.two_boxes.specs.Running.{Event, StepOf, Trace, counters_after}

-- a sweep keeps the places of its counter
sweep_places : {X C : Type 0} (le : X → X → Bool) (before after : Contents X) (old new : View X) (r : Result ℕ (Denial C)) → SweepLeaves le before after old new r → new.places ≡ old.places
sweep_places {X} le before after old new (Ok mileage) l = ran_places l.row.ran
sweep_places {X} le before after old new (Err denial) l = ap (λ (v : View X). v.places) l.1

-- so does every call
pub step_places : {X C : Type 0} (k : Storage X C) (le : X → X → Bool) (f : Form) (bytes : List ℕ) (before after : Contents X) (old new : View X) (told : Answer) → StepOf k le f bytes before after old new told → new.places ≡ old.places
step_places {X} k le (opens width rows radius) bytes before after old new told s = ap (λ (v : View X). v.places) s.1
step_places {X} k le (alters x y) bytes before after old new told s = ap (λ (v : View X). v.places) s.1
step_places k le sweeps bytes before after old new told s = sweep_places le before after old new s.result s.kept
step_places {X} k le (tells x y) bytes before after old new told s = ap (λ (v : View X). v.places) s.2
step_places {X} k le (shares x y) bytes before after old new told s = ap (λ (v : View X). v.places) s.2
step_places {X} k le (nears x y) bytes before after old new told s = ap (λ (v : View X). v.places) s.2
step_places {X} k le totals bytes before after old new told s = ap (λ (v : View X). v.places) s.2

-- the counter at an index, by how many places it has
abbrev HasPlaces : {X : Type 0} → List (View X) → ℕ → ℕ → Type 0
HasPlaces {X} counters n places = (v : View X) × (slice_get counters n ≡ Some v) × (v.places ≡ places)

-- a changed counter that keeps its places has them still
places_kept : {X : Type 0} (counters : List (View X)) (m n places : ℕ) (old new : View X) → slice_get counters m ≡ Some old → new.places ≡ old.places → HasPlaces (set counters m new) n places → HasPlaces counters n places
places_kept [] m n places old new e same h = h
places_kept (u ∷ counters) zero zero places old new e same h = (u, refl, ap (λ v. v.places) (same_Some u old e) ∙ sym same ∙ ap (λ v. v.places) (same_Some new h.0 h.1) ∙ h.2)
places_kept (u ∷ counters) zero (suc n) places old new e same h = h
places_kept (u ∷ counters) (suc m) zero places old new e same h = h
places_kept (u ∷ counters) (suc m) (suc n) places old new e same h = places_kept counters m n places old new e same h

-- the counter of an event had its places when the trace began
pub trace_places : {X C : Type 0} (k : Storage X C) (le : X → X → Bool) (i j : ℕ) (b last : Contents X) (counters left : List (View X)) (events : List (Event X)) (e : Event X) → Trace k le i b counters events last left → slice_get events j ≡ Some e → HasPlaces counters ((i + j) % length counters) e.old.places
trace_places k le i j b last counters left [] e trace at = let z : ◌≡◌ {A = ℕ} 0 1 = cc in absurd (omega arith)
trace_places {X} k le i zero b last counters left (first ∷ events) e trace at =
    let same : first ≡ e = cc in
    let here : i + 0 ≡ i = omega arith in
    (e.old, ap (λ n. slice_get counters (n % length counters)) here ∙ trace.0.counter_is ∙ ap (λ (f : Event X). Some f.old) same, refl)
trace_places {X} k le i (suc j) b last counters left (first ∷ events) e trace at =
    let rest = trace_places k le (suc i) j first.after last (counters_after i counters first.new) left events e trace.1 at in
    let long : length (counters_after i counters first.new) ≡ length counters = length-set counters (i % length counters) first.new in
    let place : suc i + j ≡ i + suc j = omega arith in
    let kept = step_places k le (form first.call) (brought first.call) first.before first.after first.old first.new first.answer trace.0.step in
    let moved = subst (λ n. HasPlaces (counters_after i counters first.new) (n % length (counters_after i counters first.new)) e.old.places) place rest in
    places_kept counters (i % length counters) ((i + suc j) % length counters) e.old.places first.old first.new trace.0.counter_is kept
    (subst (λ n. HasPlaces (counters_after i counters first.new) ((i + suc j) % n) e.old.places) long moved)
