-- One height more or less in the list.
use Rattle.std.specs.Prelude.{◌≡◌, ℕ, ◌+◌, ◌-◌, ◌≤◌, Bool, cond, List, ◌∷◌, length, Some, None, Option, ◌==◌}
use Rattle.counters.specs.Held.{tally, Same, level_with}
use Rattle.finger_list.specs.declared.change.Spot.{Spot}
use Rattle.finger_list.specs.declared.entry.Entry.{Entry}
use Rattle.finger_list.specs.declared.finger.Finger.{Finger}
use Rattle.finger_list.specs.Entries.{height_at, number_at, prev_at, held_in, Positive}
use Rattle.finger_list.specs.Linking.{Linked, InOrder, StandsAt}
use Rattle.finger_list.specs.Writing.{by_name}
use Rattle.finger_list.specs.Hands.{followed_link, left_link}

-- one height more, h, which stood at `from` and now stands at the spot's link
pub record Grown {X : Type 0} (le : X → X → Bool) (es fs : List (Entry X)) (used from : ℕ) (h : X) (r : Spot) : Type 0 where
  pub size : length fs ≡ length es
  pub more : used ≤ r.used
  pub inside : r.link ≤ r.used
  pub linked : Linked fs r.used
  pub positive : Positive es used → Positive fs r.used
  pub all : length (held_in fs r.used) ≡ 1 + length (held_in es used)
  pub held : InOrder le es used → StandsAt le es used h from → Same le (held_in fs r.used) (h ∷ held_in es used)
  pub order : InOrder le es used → StandsAt le es used h from → InOrder le fs r.used
  pub here : InOrder le es used → StandsAt le es used h from → StandsAt le fs r.used h r.link
  pub fingers : InOrder le es used → StandsAt le es used h from
      → (f : Finger X) → f.link ≤ used → StandsAt le es used f.height f.link → StandsAt le fs r.used f.height (followed_link le f from r.link h)

-- where a link goes when the entry r goes out of the list, and the last entry m takes its memory
abbrev pub left_by : {X : Type 0} → List (Entry X) → Entry X → (m r i : ℕ) → ℕ
left_by es d m r i = by_name m r (cond (i == r) (prev_at es d r) i)

-- the entry r is gone, and the last entry m has its memory
pub record EntryGone {X : Type 0} (le : X → X → Bool) (es fs : List (Entry X)) (m r : ℕ) : Type 0 where
  pub size : length fs ≡ length es
  pub linked : Linked fs (m - 1)
  pub positive : Positive es m → Positive fs (m - 1)
  pub held : (t : X → Bool) (d : Entry X) → tally t (held_in es m) ≡ cond (t (height_at es d r)) (number_at es d r) 0 + tally t (held_in fs (m - 1))
  pub order : InOrder le es m → InOrder le fs (m - 1)
  pub fingers : InOrder le es m → (d : Entry X) (p : X) (i : ℕ) → i ≤ m → StandsAt le es m p i → StandsAt le fs (m - 1) p (left_by es d m r i)

-- one height less: one level with h, which stood at `at`
pub record Shrunk {X : Type 0} (le : X → X → Bool) (es fs : List (Entry X)) (used at : ℕ) (h : X) (r : Spot) : Type 0 where
  pub size : length fs ≡ length es
  pub fewer : r.used ≤ used
  pub linked : Linked fs r.used
  pub inside : (i : ℕ) → i ≤ used → left_link at r used i ≤ r.used
  pub positive : Positive fs r.used
  pub all : length (held_in es used) ≡ 1 + length (held_in fs r.used)
  pub held : InOrder le es used → StandsAt le es used h at → Same le (held_in es used) (h ∷ held_in fs r.used)
  pub order : InOrder le es used → InOrder le fs r.used
  pub fingers : InOrder le es used → (p : X) (i : ℕ) → i ≤ used → StandsAt le es used p i → StandsAt le fs r.used p (left_link at r used i)

-- one height level with h is removed; or there is none, if the list is in order, and nothing changes
abbrev pub Removed : {X : Type 0} → (X → X → Bool) → (es fs : List (Entry X)) → (used at : ℕ) → X → Option Spot → Type 0
Removed le es fs used at h (Some r) = Shrunk le es fs used at h r
Removed le es fs used at h None =
    (fs ≡ es) × (InOrder le es used → StandsAt le es used h at → level_with le (held_in es used) h ≡ 0)
