-- Two lives side by side, one call more each, and what the law says of them.
use Rattle.std.proofs.Common.{◌≡◌, ℕ, zero, suc, ◌+◌, ◌<◌, ◌≤◌, Bool, true, false, List, [], ◌∷◌, ◌++◌, map, length, get_or, take, drop, set, Some, None, Decides, Option, sym, refl, ap, ◌∙◌, subst, arith}
use Rattle.std.specs.List.{slice_get}
use Rattle.std.proofs.lemmas.Option.{slice_get_within, get_or_from_slice_get}
use Rattle.std.proofs.lemmas.List.{take_more, length-map, length-append, length-take-le, map_push, set_at, drop_more, take_at, take-append-le, append_assoc}
use Rattle.std.proofs.lemmas.Bool.{true≢false}
use Rattle.std.proofs.lemmas.Bool.Decides.{nat_tests}
use Rattle.heights.specs.Meaning.{Storage}
use Rattle.heights.specs.Order.{Preorder}
use Rattle.counters.specs.Calls.{View}
use Rattle.siting_box.specs.Contents.{Contents, contents, counts_on}
use Rattle.siting_box.proofs.Plans.{there}
use Rattle.runs.specs.declared.call.Call.{Call}
use Rattle.two_boxes.specs.declared.answer.Answer.{Answer}
use Rattle.two_boxes.specs.declared.comparison.Comparison.{Comparison}
use Rattle.two_boxes.specs.declared.comparison.Comparison.TheVariants.{Agree}
use Rattle.runs.specs.Matching.{Matched}
use Rattle.two_boxes.specs.Matching.{EqualPlacesInTurn}
use Rattle.runs.specs.Running.{new_box}
use Rattle.two_boxes.specs.Running.{Event, Turn, TookTurn, counters_after, Trace, Traced}
use Rattle.runs.specs.Pointwise.{Pointwise}
use Rattle.two_boxes.specs.Agreeing.{less_steps, Shared, Partnered, TwoBoxes}
use Rattle.two_boxes.specs.Comparing.{comparable, Comparables, LookAlike, FirstApart, apart_after, verdict, BothCalled, RanBoth}
use Rattle.runs.proofs.Couples.{both_push, both_length}
use Rattle.two_boxes.proofs.Traces.{matched_traces}
use Rattle.two_boxes.proofs.Whole.{sweeps_bounded}

-- what two lists that can be compared have
pub comparables : (calls calls' counters counters' room room' : ℕ) → comparable calls calls' counters counters' room room' ≡ true → Comparables calls calls' counters counters' room room'
comparables calls calls' counters counters' room room' e = record {
  same_calls = grind (arith, nat_tests);
  some_counter = grind (arith, nat_tests);
  some_counter' = grind (arith, nat_tests);
  enough = grind (arith, nat_tests);
  enough' = grind (arith, nat_tests);
}

-- ---- one trace

-- a trace and one event more
trace_push : {X C : Type 0} (k : Storage X C) (le : X → X → Bool) (i : ℕ) (b last : Contents X) (counters left : List (View X)) (events : List (Event X)) (e : Event X) → Trace k le i b counters events last left → Turn k le (i + length events) last left e → Trace k le i b counters (events ++ e ∷ []) e.after (counters_after (i + length events) left e.new)
trace_push k le i b last counters left [] e trace t =
    let here : i + 0 ≡ i = omega arith in
    let first : Turn k le i b counters e = subst (λ n. Turn k le n b counters e) here (subst (λ cs. Turn k le (i + 0) b cs e) trace.1 (subst (λ c. Turn k le (i + 0) c left e) trace.0 t)) in
    (first, (refl, ap (λ n. counters_after n left e.new) here ∙ ap (λ cs. counters_after i cs e.new) trace.1))
trace_push k le i b last counters left (f ∷ events) e trace t =
    let place : i + length (f ∷ events) ≡ suc i + length events = omega arith in
    let rest = trace_push k le (suc i) f.after last (counters_after i counters f.new) left events e trace.1 (subst (λ n. Turn k le n last left e) place t) in
    (trace.0, subst (λ n. Trace k le (suc i) f.after (counters_after i counters f.new) (events ++ e ∷ []) e.after (counters_after n left e.new)) (sym place) rest)

take_push : {A : Type 0} (xs : List A) (i : ℕ) (x : A) → slice_get xs i ≡ Some x → take (i + 1) xs ≡ take i xs ++ x ∷ []
take_push xs i x e = take_more xs i x (slice_get_within xs i x e) ∙ ap (λ y. take i xs ++ y ∷ []) (get_or_from_slice_get xs i x x e)

event_count : {X : Type 0} (events : List (Event X)) (calls : List Call) (i : ℕ) → map (λ e. e.call) events ≡ take i calls → i ≤ length calls → length events ≡ i
event_count events calls i e h = sym (length-map events (λ e. e.call)) ∙ ap length e ∙ length-take-le i calls h

-- the answer of one call more, noted in its place
noted_push : (told : List Answer) (memory : List Answer) (i : ℕ) (a : Answer) → length told ≡ i → i < length memory → set (told ++ drop i memory) i a ≡ (told ++ a ∷ []) ++ drop (i + 1) memory
noted_push told memory i a long room =
    ap (λ xs. set (told ++ xs) i a) (drop_more memory i a room) ∙ set_at told (get_or memory i a) (drop (i + 1) memory) a i long ∙ sym (append_assoc told (a ∷ []) (drop (i + 1) memory))

-- a box that some calls of a list came to, and one call more
traced_more : {X C : Type 0} (k : Storage X C) (le : X → X → Bool) (start : Contents X) (counters now left : List (View X)) (calls : List Call) (memory noted after-noted : List Answer) (events : List (Event X)) (b after : Contents X) (told : Answer) (i : ℕ) → i < length calls → i < length memory
    → Traced k le start b counters now (take i calls) memory noted events → (t : TookTurn k le i calls b after now left noted after-noted told) → Traced k le start after counters left (take (i + 1) calls) memory after-noted (events ++ t.event ∷ [])
traced_more {X} k le start counters now left calls memory noted after-noted events b after told i called room traced t =
    let e = t.event in
    let call : Event X → Call = λ f. f.call in
    let answer : Event X → Answer = λ f. f.answer in
    let count : length events ≡ i = event_count events calls i traced.calls_are (omega arith) in
    let number : 0 + length events ≡ i = omega arith in
    let turn : Turn k le (0 + length events) b now e = subst (λ n. Turn k le n b now e) (sym number) t.turn in
    let pushed = trace_push k le 0 start b counters now events e traced.trace turn in
    let left_is : counters_after (0 + length events) now e.new ≡ left = ap (λ n. counters_after n now e.new) number ∙ sym t.left_is in
    let listed : map call (events ++ e ∷ []) ≡ take (i + 1) calls = map_push call events e ∙ ap (λ cs. cs ++ e.call ∷ []) traced.calls_are ∙ sym (take_push calls i e.call t.call_is) in
    let short : length (take i calls) ≡ i = length-take-le i calls (omega arith) in
    let short₁ : length (take (i + 1) calls) ≡ i + 1 = length-take-le (i + 1) calls (omega arith) in
    record {
      trace = subst (λ c. Trace k le 0 start counters (events ++ e ∷ []) c left) (sym t.after_is) (subst (λ cs. Trace k le 0 start counters (events ++ e ∷ []) e.after cs) left_is pushed);
      calls_are = listed;
      answers_are = t.noted_is
          ∙ ap (λ xs. set xs i e.answer) (traced.answers_are ∙ ap (λ n. map answer events ++ drop n memory) short)
          ∙ noted_push (map answer events) memory i e.answer (length-map events answer ∙ count) room
          ∙ ap (λ xs. xs ++ drop (i + 1) memory) (sym (map_push answer events e))
          ∙ ap (λ n. map answer (events ++ e ∷ []) ++ drop n memory) (sym short₁);
    }

-- ---- two lives

nth_push : {A : Type 0} (xs : List A) (x y : A) (i : ℕ) → length xs ≡ i → slice_get (xs ++ x ∷ []) i ≡ Some y → y ≡ x
nth_push [] x y zero h e = cc
nth_push [] x y (suc i) h e = absurd (omega arith)
nth_push (z ∷ xs) x y zero h e = absurd (omega arith)
nth_push (z ∷ xs) x y (suc i) h e = nth_push xs x y i (omega arith) e

nth_front : {A : Type 0} (xs ys : List A) (i : ℕ) → i < length xs → slice_get (xs ++ ys) i ≡ slice_get xs i
nth_front [] ys i h = absurd (omega arith)
nth_front (x ∷ xs) ys zero h = refl
nth_front (x ∷ xs) ys (suc i) h = nth_front xs ys i (omega arith)

-- the first events that do not look alike, with one more event each
apart_push : {X Y : Type 0} (events : List (Event X)) (events' : List (Event Y)) (e : Event X) (e' : Event Y) (i : ℕ) (apart : Option ℕ) (alike : Bool) → length events ≡ i → length events' ≡ i → Decides alike (LookAlike e e') → FirstApart events events' apart → FirstApart (events ++ e ∷ []) (events' ++ e' ∷ []) (apart_after apart i alike)
apart_push events events' e e' i None true long long' decides first = both_push LookAlike events events' e e' first (decides.0 refl)
apart_push {X} {Y} events events' e e' i None false long long' decides first =
    let more : length (events ++ e ∷ []) ≡ length events + 1 = length-append events (e ∷ []) in (
      omega arith,
      subst (λ xs. Pointwise LookAlike xs (take i (events' ++ e' ∷ []))) (sym (take_at events (e ∷ []) i long)) (subst (λ ys. Pointwise LookAlike events ys) (sym (take_at events' (e' ∷ []) i long')) first),
      λ f f' at at' same. true≢false (sym (decides.1 (subst (λ a. LookAlike a e') (nth_push events e f i long at) (subst (λ a. LookAlike f a) (nth_push events' e' f' i long' at') same)))),
    )
apart_push {X} {Y} events events' e e' i (Some j) alike long long' decides first =
    let more : length (events ++ e ∷ []) ≡ length events + 1 = length-append events (e ∷ []) in
    let lt : j < length events = first.0 in
    let lt' : j < length events' = omega arith in (
      omega arith,
      subst (λ xs. Pointwise LookAlike xs (take j (events' ++ e' ∷ []))) (sym (take-append-le j events (e ∷ []) (omega arith))) (subst (λ ys. Pointwise LookAlike (take j events) ys) (sym (take-append-le j events' (e' ∷ []) (omega arith))) first.1),
      λ f f' at at' same. first.2 f f' (sym (nth_front events (e ∷ []) j lt) ∙ at) (sym (nth_front events' (e' ∷ []) j lt') ∙ at') same,
    )

-- no call came yet
pub called_none : {X C Y D : Type 0} {k : Storage X C} {k' : Storage Y D} {le : X → X → Bool} {le' : Y → Y → Bool} {start : Contents X} {start' : Contents Y} {counters : List (View X)} {counters' : List (View Y)} {memory memory' : List Answer} → BothCalled k k' le le' start start start' start' counters counters counters' counters' [] [] memory memory memory' memory' None
called_none = record {
  events = [];
  events' = [];
  traced = record { trace = (refl, refl); calls_are = refl; answers_are = refl };
  traced' = record { trace = (refl, refl); calls_are = refl; answers_are = refl };
  first_apart = tt;
}

module _ {X C Y D : Type 0} {k : Storage X C} {k' : Storage Y D} {le : X → X → Bool} {le' : Y → Y → Bool} {start : Contents X} {start' : Contents Y} {counters : List (View X)} {counters' : List (View Y)} {calls calls' : List Call} {memory memory' : List Answer} where
  -- one call more each
  pub called_more : {now left : List (View X)} {now' left' : List (View Y)} {noted after-noted noted' after-noted' : List Answer} {b after : Contents X} {b' after' : Contents Y} {apart next : Option ℕ} {told told' : Answer} {alike : Bool} {i : ℕ} {heard heard' : List Call} → i < length calls → i < length calls' → i < length memory → i < length memory'
      → BothCalled k k' le le' start b start' b' counters now counters' now' (take i calls) (take i calls') memory noted memory' noted' apart → heard ≡ calls → heard' ≡ calls' → TookTurn k le i heard b after now left noted after-noted told → TookTurn k' le' i heard' b' after' now' left' noted' after-noted' told'
      → Decides alike ((less_steps told ≡ less_steps told') × (counts_on after ≡ counts_on after')) → next ≡ apart_after apart i alike
      → BothCalled k k' le le' start after start' after' counters left counters' left' (take (i + 1) calls) (take (i + 1) calls') memory after-noted memory' after-noted' next
  called_more {now} {left} {now'} {left'} {noted} {after-noted} {noted'} {after-noted'} {b} {after} {b'} {after'} {apart} {next} {told} {told'} {alike} {i} called called' room room' u same same' took took' decides is =
      let t = subst (λ cs. TookTurn k le i cs b after now left noted after-noted told) same took in
      let t' = subst (λ cs. TookTurn k' le' i cs b' after' now' left' noted' after-noted' told') same' took' in
      let e = t.event in
      let e' = t'.event in
      let told_same : less_steps told ≡ less_steps e.answer = ap less_steps t.told_is in
      let told-same' : less_steps told' ≡ less_steps e'.answer = ap less_steps t'.told_is in
      let counts_same : counts_on after ≡ counts_on e.after = ap counts_on t.after_is in
      let counts-same' : counts_on after' ≡ counts_on e'.after = ap counts_on t'.after_is in
      let decided : Decides alike (LookAlike e e') = (λ yes. let both = decides.0 yes in (sym told_same ∙ both.0 ∙ told-same', sym counts_same ∙ both.1 ∙ counts-same'), λ look. decides.1 (told_same ∙ look.0 ∙ sym told-same', counts_same ∙ look.1 ∙ sym counts-same')) in
      record {
        events = u.events ++ e ∷ [];
        events' = u.events' ++ e' ∷ [];
        traced = traced_more k le start counters now left calls memory noted after-noted u.events b after told i called room u.traced t;
        traced' = traced_more k' le' start' counters' now' left' calls' memory' noted' after-noted' u.events' b' after' told' i called' room' u.traced' t';
        first_apart = subst (λ o. FirstApart (u.events ++ e ∷ []) (u.events' ++ e' ∷ []) o) (sym is) (apart_push u.events u.events' e e' i apart alike (event_count u.events calls i u.traced.calls_are (omega arith)) (event_count u.events' calls' i u.traced'.calls_are (omega arith)) decided u.first_apart);
      }

shared_at : {X Y : Type 0} (le : X → X → Bool) (le' : Y → Y → Bool) (events : List (Event X)) (events' : List (Event Y)) (i : ℕ) (e : Event X) (e' : Event Y) → Pointwise (Shared le le') events events' → slice_get events i ≡ Some e → slice_get events' i ≡ Some e' → LookAlike e e'
shared_at le le' [] [] i e e' b at at' = let z : ◌≡◌ {A = ℕ} 0 1 = cc in absurd (omega arith)
shared_at le le' [] (f' ∷ events') i e e' b at at' = absurd b
shared_at le le' (f ∷ events) [] i e e' b at at' = absurd b
shared_at le le' (f ∷ events) (f' ∷ events') zero e e' b at at' =
    let same : f ≡ e = cc in
    let same' : f' ≡ e' = cc in
    subst (λ a. LookAlike a e') same (subst (λ a. LookAlike f a) same' (b.0.answer, b.0.counts))
shared_at le le' (f ∷ events) (f' ∷ events') (suc i) e e' b at at' = shared_at le le' events events' i e e' b.1 at at'

-- events that share what they should are nowhere apart
agreed : {X Y : Type 0} (le : X → X → Bool) (le' : Y → Y → Bool) (events : List (Event X)) (events' : List (Event Y)) (apart : Option ℕ) → Pointwise (Shared le le') events events' → FirstApart events events' apart → verdict apart ≡ Agree
agreed le le' events events' None b first = refl
agreed le le' events events' (Some i) b first =
    let long : length events ≡ length events' = both_length (Shared le le') events events' b in
    let at = there events i first.0 in
    let at' = there events' i (let lt : i < length events = first.0 in omega arith) in
    absurd (first.2 at.0 at'.0 at.1 at'.1 (shared_at le le' events events' i at.0 at'.0 b at.1 at'.1))

-- a box that holds no plan is new
is_new : {X : Type 0} (b : Contents X) → b.plan ≡ None → b ≡ new_box b.records
is_new b e = ap (λ o. contents o b.records) e

-- the law of two boxes, of what two lists came to
pub two_boxes : {X C Y D : Type 0} (k : Storage X C) (k' : Storage Y D) (le : X → X → Bool) (le' : Y → Y → Bool) → Preorder le → Preorder le' → (start last : Contents X) (start' last' : Contents Y) (counters left : List (View X)) (counters' left' : List (View Y)) (calls calls' : List Call) (memory noted memory' noted' : List Answer) (events : List (Event X)) (events' : List (Event Y))
    → Traced k le start last counters left calls memory noted events → Traced k' le' start' last' counters' left' calls' memory' noted' events' → Partnered k k' le le' start start' counters counters' calls calls' → TwoBoxes le le' events events'
two_boxes {X} {C} {Y} {D} k k' le le' ordered ordered' start last start' last' counters left counters' left' calls calls' memory noted memory' noted' events events' traced traced' p =
    let matched : Matched k k' le le' (map (λ (e : Event X). e.call) events) (map (λ (e : Event Y). e.call) events') = subst (λ cs. Matched k k' le le' cs (map (λ (e : Event Y). e.call) events')) (sym traced.calls_are) (subst (λ cs. Matched k k' le le' calls cs) (sym traced'.calls_are) p.lists) in
    let places : EqualPlacesInTurn (map (λ (e : Event X). e.call) events) counters counters' = subst (λ cs. EqualPlacesInTurn cs counters counters') (sym traced.calls_are) p.places in
    let trace : Trace k le 0 (new_box start.records) counters events last left = subst (λ b. Trace k le 0 b counters events last left) (is_new start p.no_plan) traced.trace in
    let trace' : Trace k' le' 0 (new_box start'.records) counters' events' last' left' = subst (λ b. Trace k' le' 0 b counters' events' last' left') (is_new start' p.no_plan') traced'.trace in
    record {
      after_each_call = matched_traces k k' le le' ordered ordered' start.records start'.records counters left counters' left' events events' last last' p.records matched places trace trace';
      ceiling = sweeps_bounded k le ordered start.records counters left events last trace;
      ceiling' = sweeps_bounded k' le' ordered' start'.records counters' left' events' last' trace';
    }

-- both lists came, and this is what the boxes, the counters and the memories were left as
pub ran_both : {X C Y D : Type 0} {k : Storage X C} {k' : Storage Y D} {le : X → X → Bool} {le' : Y → Y → Bool} {start last end : Contents X} {start' last' end' : Contents Y} {counters left kept : List (View X)} {counters' left' kept' : List (View Y)} {calls calls' : List Call} {memory noted written memory' noted' written' : List Answer} {apart : Option ℕ} {result : Comparison}
    → Preorder le → Preorder le' → BothCalled k k' le le' start last start' last' counters left counters' left' calls calls' memory noted memory' noted' apart → result ≡ verdict apart → end ≡ last → end' ≡ last' → kept ≡ left → kept' ≡ left' → written ≡ noted → written' ≡ noted'
    → RanBoth k k' le le' start end start' end' counters kept counters' kept' calls calls' memory written memory' written' result
ran_both {k = k} {k'} {le} {le'} {start} {last} {start' = start'} {last' = last'} {counters = counters} {left} {counters' = counters'} {left' = left'} {calls = calls} {calls'} {memory} {noted} {memory' = memory'} {noted' = noted'} {apart = apart} ordered ordered' u is e e' f f' w w' = rw (e, e', f, f', w, w') (record {
  apart = apart;
  result_is = is;
  called = u;
  law = λ p.
      let law = two_boxes k k' le le' ordered ordered' start last start' last' counters left counters' left' calls calls' memory noted memory' noted' u.events u.events' u.traced u.traced' p in
      (law, is ∙ agreed le le' u.events u.events' apart law.after_each_call u.first_apart);
})
