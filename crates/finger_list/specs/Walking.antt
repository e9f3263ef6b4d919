-- What a walk along the links has come to.
use Rattle.std.specs.Prelude.{◌≡◌, ℕ, ◌+◌, ◌<◌, ◌≤◌, Bool, true, false, cond, List, Some, None, sum_by, Option, ◌≢◌}
use Rattle.counters.specs.Held.{up_to}
use Rattle.counters.specs.Calls.{finger_steps}
use Rattle.finger_list.specs.declared.entry.Entry.{Entry}
use Rattle.finger_list.specs.declared.finger.Finger.{Finger}
use Rattle.finger_list.specs.declared.walk.Way.{Way}
use Rattle.finger_list.specs.Entries.{in_use, height_at, held_in}
use Rattle.finger_list.specs.Linking.{not_past, StandsAt}

-- the entry i is not higher than h
abbrev pub NotOver : {X : Type 0} → (X → X → Bool) → List (Entry X) → ℕ → X → Type 0
NotOver {X} le es i h = (d : Entry X) → (i ≢ 0) → le (height_at es d i) h ≡ true

-- all entries past i are higher than h
abbrev pub NotUnder : {X : Type 0} → (X → X → Bool) → List (Entry X) → ℕ → ℕ → X → Type 0
NotUnder {X} le es used i h =
    (d : Entry X) (j : ℕ) → 0 < j → j ≤ used → not_past le (height_at es d) i (height_at es d j) ≡ false → le (height_at es d j) h ≡ false

-- what an entry weighs under a test
abbrev pub part : {X : Type 0} → (X → Bool) → (Entry X → ℕ) → Entry X → ℕ
part t w e = cond (t e.height) (w e) 0

-- each entry weighs one
abbrev pub one : {X : Type 0} → Entry X → ℕ
one e = 1

-- each entry weighs as much as its number
abbrev pub many : {X : Type 0} → Entry X → ℕ
many e = e.number

-- what the entries that pass a test weigh together
abbrev pub weighs : {X : Type 0} → (X → Bool) → (Entry X → ℕ) → List (Entry X) → ℕ
weighs t w us = sum_by (part t w) us

-- from a up to b there are so many entries, with so many heights
pub record Went {X : Type 0} (le : X → X → Bool) (es : List (Entry X)) (used a b steps passed : ℕ) : Type 0 where
  pub ranks : (d : Entry X) → weighs (not_past le (height_at es d) b) one (in_use es used) ≡ weighs (not_past le (height_at es d) a) one (in_use es used) + steps
  pub counts : (d : Entry X) → weighs (not_past le (height_at es d) b) many (in_use es used) ≡ weighs (not_past le (height_at es d) a) many (in_use es used) + passed

-- a walk has gone up from a link to where h stands
abbrev pub Climbed : {X : Type 0} → (X → X → Bool) → List (Entry X) → ℕ → ℕ → X → Way → Type 0
Climbed le es used from h r = Went le es used from r.link r.steps r.passed × StandsAt le es used h r.link

-- a walk has gone down from a link to where h stands
abbrev pub Descended : {X : Type 0} → (X → X → Bool) → List (Entry X) → ℕ → ℕ → X → Way → Type 0
Descended le es used from h r = Went le es used r.link from r.steps r.passed × StandsAt le es used h r.link

-- a walk has gone from where p stands to where h stands, in the steps of a finger, past the heights that lie between
pub record Moved {X : Type 0} (le : X → X → Bool) (es : List (Entry X)) (used : ℕ) (p h : X) (r : Way) : Type 0 where
  pub at : StandsAt le es used h r.link
  pub steps : r.steps ≡ finger_steps le (held_in es used) p h
  pub up : le p h ≡ true → up_to le (held_in es used) h ≡ up_to le (held_in es used) p + r.passed
  pub down : le p h ≡ false → up_to le (held_in es used) p ≡ up_to le (held_in es used) h + r.passed

-- a walk has gone to where h stands, from a finger or else from the end, past all heights that are not higher
abbrev pub Arrived : {X : Type 0} → (X → X → Bool) → List (Entry X) → ℕ → X → Way → Option (Finger X) → Type 0
Arrived le es used h r None = StandsAt le es used h r.link × (up_to le (held_in es used) h ≡ r.passed)
Arrived le es used h r (Some f) = Moved le es used f.height h r
