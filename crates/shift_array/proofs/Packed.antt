-- What a change of the used entries does to what a shift array shows.
use Rattle.std.proofs.Common.{◌≡◌, ℕ, ◌+◌, ◌-◌, ◌<◌, ◌≤◌, Bool, List, ◌∷◌, length, take, Ok, Result, Some, Option, sym, refl, ap, ◌∙◌, subst, arith}
use Rattle.std.specs.Result.{result_ok}
use Rattle.std.proofs.lemmas.List.{length-take-le}
use Rattle.heights.specs.Order.{Preorder}
use Rattle.counters.specs.Held.{level_with}
use Rattle.counters.specs.Calls.{Did, put, take as taking, places_of, mileage_after}
use Rattle.counters.proofs.Tallies.{same_length, held_level}
use Rattle.counters.specs.declared.counter.Refusal.{Refusal}
use Rattle.shift_array.specs.declared.change.Change.{Change}
use Rattle.shift_array.specs.declared.entry.Entry.{Entry}
use Rattle.shift_array.specs.Entries.{heights, Climbing}
use Rattle.shift_array.specs.Changes.{Grown, Shrunk, Removed}
use Rattle.shift_array.specs.Views.{shown, Tidy}
use Rattle.shift_array.proofs.Weights.{entries_le_heights}

-- no more entries are used than heights are held
pub used_le_held : {X : Type 0} (es : List (Entry X)) (used held m : ℕ) → Tidy es used held m → used ≤ held
used_le_held es used held m t = omega (arith, t.0, t.2, entries_le_heights (take used es) t.1, length-take-le used es t.0)

-- with a place left, an entry is left
pub room_left : {X : Type 0} (es : List (Entry X)) (used held m : ℕ) → Tidy es used held m → held < places_of (length es) → used < length es
room_left es used held m t room = omega (arith, used_le_held es used held m t)

-- after a put the memory is tidy
pub tidy_put : {X : Type 0} (le : X → X → Bool) (es fs : List (Entry X)) (used used' held m m' s : ℕ) (h : X)
    → Tidy es used held m → held < places_of (length es) → length fs ≡ length es → m' ≡ mileage_after m s → used' ≤ used + 1
    → Grown le (take used es) (take used' fs) h s → Tidy fs used' (held + 1) m'
tidy_put le es fs used used' held m m' s h t room same told in' gr = (
  omega (arith, room_left es used held m t room),
  gr.positive t.1,
  omega (arith, same_length le (heights (take used' fs)) (h ∷ heights (take used es)) gr.held, t.2),
  subst (λ k. held + 1 ≤ places_of k) (sym same) (omega arith),
  omega arith,
)

-- what a put does
pub did_put : {X : Type 0} (le : X → X → Bool) (es fs : List (Entry X)) (used used' held m m' s : ℕ) (h : X)
    → Tidy es used held m → held < places_of (length es) → length fs ≡ length es → m' ≡ mileage_after m s
    → Grown le (take used es) (take used' fs) h s → Climbing le (take used es)
    → (length (heights (take used es)) < places_of (length es)) × Did le (shown es used m) (put h) s (shown fs used' m')
did_put le es fs used used' held m m' s h t room same told gr cl = (
  omega (arith, t.2),
  record {
    held = gr.held;
    places = ap places_of same;
    mileage = told;
    rule = refl;
    few = omega (arith, gr.few, used_le_held es used held m t, length-take-le used es t.0);
    exact = gr.exact t.1 cl;
  },
)

-- after a take the memory is tidy
pub tidy_take : {X : Type 0} (le : X → X → Bool) (es fs : List (Entry X)) (used used' held m m' s : ℕ) (h : X)
    → Tidy es used held m → length fs ≡ length es → m' ≡ mileage_after m s → used' ≤ used
    → Shrunk le (take used es) (take used' fs) h s → Tidy fs used' (held - 1) m'
tidy_take le es fs used used' held m m' s h t same told in' sh = (
  omega (arith, t.0),
  sh.positive t.1,
  omega (arith, same_length le (heights (take used es)) (h ∷ heights (take used' fs)) sh.held, t.2),
  subst (λ k. held - 1 ≤ places_of k) (sym same) (omega (arith, t.3)),
  omega arith,
)

-- what a take does
pub did_take : {X : Type 0} {le : X → X → Bool} → Preorder le → (es fs : List (Entry X)) (used used' held m m' s : ℕ) (h : X)
    → Tidy es used held m → length fs ≡ length es → m' ≡ mileage_after m s
    → Shrunk le (take used es) (take used' fs) h s → Climbing le (take used es)
    → (0 < level_with le (heights (take used es)) h) × Did le (shown es used m) (taking h) s (shown fs used' m')
did_take o es fs used used' held m m' s h t same told sh cl = (
  held_level o (heights (take used es)) (heights (take used' fs)) h sh.held,
  record {
    held = sh.held;
    places = ap places_of same;
    mileage = told;
    rule = refl;
    few = omega (arith, sh.few, used_le_held es used held m t, length-take-le used es t.0, t.3);
    exact = sh.exact t.1 cl;
  },
)

-- what is taken was held
pub some_held : {X : Type 0} (le : X → X → Bool) (es fs : List (Entry X)) (used used' held m s : ℕ) (h : X)
    → Tidy es used held m → Shrunk le (take used es) (take used' fs) h s → 0 < held
some_held le es fs used used' held m s h t sh =
    omega (arith, same_length le (heights (take used es)) (h ∷ heights (take used' fs)) sh.held, t.2)

-- a removal that was told as done
pub done_removal : {X : Type 0} (le : X → X → Bool) (es fs : List (Entry X)) (used : ℕ) (h : X) (o : Option Change) (r : Result Change Refusal) (change : Change)
    → o ≡ result_ok r → r ≡ Ok change → Removed le es fs used h o → Removed le es fs used h (Some change)
done_removal le es fs used h o r change e ok done = subst (Removed le es fs used h) (e ∙ ap result_ok ok) done
