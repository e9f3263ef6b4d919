-- What a finger list shows, what always holds of its memory, and what the order adds.
use Rattle.std.specs.Prelude.{◌≡◌, ℕ, ◌+◌, ◌-◌, ◌<◌, ◌≤◌, min, Bool, List, length, Some, None, Option}
use Rattle.counters.specs.Calls.{View, StepRule, places_of, waiting, fingers}
use Rattle.finger_list.specs.declared.entry.Entry.{Entry}
use Rattle.finger_list.specs.declared.finger.Fingers.{Fingers}
use Rattle.finger_list.specs.Entries.{number_at, next_at, prev_at, held_in}
use Rattle.finger_list.specs.Linking.{InOrder}
use Rattle.finger_list.specs.Hands.{LinksIn, count_of, AllStand, Counted}

-- the rule of the steps: waiting, or the heights where the fingers stand
abbrev pub rule_of : {X : Type 0} → Option (Fingers X) → StepRule X
rule_of None = waiting
rule_of (Some f) = fingers f.put.height f.take.height f.ask.height

-- what a finger list shows: the heights of its entries in use, the places of its memory, its mileage, where its fingers stand
abbrev pub shown : {X : Type 0} → List (Entry X) → (used mileage : ℕ) → Option (Fingers X) → View X
shown es used mileage f = record { held = held_in es used; places = places_of (length es); mileage = mileage; rule = rule_of f }

-- the links lead to the end or to entries in use, and the numbers are small
abbrev pub Inside : {X : Type 0} → List (Entry X) → ℕ → Type 0
Inside {X} es used =
    (used ≤ length es - 1) × (used ≤ 1048576)
    × ((i : ℕ) (d : Entry X) → i < min (used + 1) (length es) → next_at es d i ≤ used)
    × ((i : ℕ) (d : Entry X) → i < min (used + 1) (length es) → prev_at es d i ≤ used)
    × ((i : ℕ) (d : Entry X) → i < min (used + 1) (length es) → number_at es d i ≤ 1048576)

-- the link up undoes the link down
abbrev pub Back : {X : Type 0} → List (Entry X) → ℕ → Type 0
Back {X} es used = (i : ℕ) (d : Entry X) → i < min (used + 1) (length es) → next_at es d (prev_at es d i) ≡ i

-- the link down undoes the link up
abbrev pub Forth : {X : Type 0} → List (Entry X) → ℕ → Type 0
Forth {X} es used = (i : ℕ) (d : Entry X) → i < min (used + 1) (length es) → prev_at es d (next_at es d i) ≡ i

-- the entries in use have numbers above 0; as many heights are held as is noted, and no more than the places; the fingers' links
-- lead to the end or to entries in use, and no more heights are counted than held
abbrev pub Noted : {X : Type 0} → List (Entry X) → (used held : ℕ) → Option (Fingers X) → Type 0
Noted {X} es used held f =
    ((i : ℕ) (d : Entry X) → i < used → 0 < number_at es d (i + 1))
    × (held ≡ length (held_in es used)) × (held ≤ places_of (length es))
    × LinksIn f used × (count_of f ≤ held)

-- what always holds, whatever the order
abbrev pub Tidy : {X : Type 0} → List (Entry X) → (used held : ℕ) → Option (Fingers X) → Type 0
Tidy es used held f = Inside es used × Back es used × Forth es used × Noted es used held f

-- the entries are in order, each finger's height stands at its link, and the count is that of the ask finger
pub record Fit {X : Type 0} (le : X → X → Bool) (es : List (Entry X)) (used : ℕ) (f : Option (Fingers X)) : Type 0 where
  pub order : InOrder le es used
  pub stands : AllStand le es used f
  pub counted : Counted le (held_in es used) f
