-- One call of a list, as a turn of its box.
use Rattle.std.proofs.Common.{◌≡◌, ℕ, ◌%◌, ◌<◌, Bool, List, map, length, get_or, set, sym, refl, ap, ◌∙◌}
use Rattle.std.specs.List.{slice_get}
use Rattle.std.specs.Option.{option_map}
use Rattle.std.proofs.lemmas.List.{map-set, length-map}
use Rattle.std.proofs.lemmas.Option.{slice_get-get_or, slice_get-map}
use Rattle.heights.specs.Meaning.{Storage}
use Rattle.counters.specs.Calls.{View}
use Rattle.siting_box.specs.Contents.{Contents}
use Rattle.runs.specs.declared.call.Call.{Call}
use Rattle.two_boxes.specs.declared.answer.Answer.{Answer}
use Rattle.runs.specs.Calling.{form, brought}
use Rattle.two_boxes.specs.Running.{Event, StepOf, TookTurn}

-- a call of a list is a turn of its box
pub took_turn : {X C S : Type 0} (k : Storage X C) (le : X → X → Bool) (view : S → View X) (i : ℕ) (calls : List Call) (before after : Contents X) (counters : List S) (counter : S) (memory : List Answer) (told : Answer) (d : Call) (s : S) → i < length calls → i % length counters < length counters
    → StepOf k le (form (get_or calls i d)) (brought (get_or calls i d)) before after (view (get_or counters (i % length counters) s)) (view counter) told
    → TookTurn k le i calls before after (map view counters) (map view (set counters (i % length counters) counter)) memory (set memory i told) told
took_turn {X} k le view i calls before after counters counter memory told d s called counted step =
    let turn = i % length counters in
    let long : length (map view counters) ≡ length counters = length-map counters view in
    let event : Event X = record { call = get_or calls i d; before = before; after = after; old = view (get_or counters turn s); new = view counter; answer = told } in
    record {
      event = event;
      turn = record {
        box_is = refl;
        counter_is = ap (λ n. slice_get (map view counters) (i % n)) long ∙ slice_get-map view counters turn ∙ ap (option_map view) (slice_get-get_or counters turn s counted);
        step = step;
      };
      call_is = slice_get-get_or calls i d called;
      after_is = refl;
      left_is = map-set view counters turn counter ∙ ap (λ n. set (map view counters) (i % n) (view counter)) (sym long);
      noted_is = refl;
      told_is = refl;
    }
