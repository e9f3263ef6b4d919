-- The fingers of a list: where they stand, and what each call does to them.
use Rattle.std.specs.Prelude.{◌≡◌, ℕ, ◌+◌, ◌-◌, ◌≤◌, min, Bool, cond, List, Some, None, Option, option_map, ◌==◌}
use Rattle.counters.specs.Held.{up_to}
use Rattle.finger_list.specs.declared.change.Spot.{Spot}
use Rattle.finger_list.specs.declared.entry.Entry.{Entry}
use Rattle.finger_list.specs.declared.finger.Finger.{Finger}
use Rattle.finger_list.specs.declared.finger.Fingers.{Fingers}
use Rattle.finger_list.specs.Linking.{StandsAt}
use Rattle.finger_list.specs.Writing.{by_name}

-- the link of a finger; with none, the end of the list
abbrev pub link_of : {X : Type 0} → Option (Finger X) → ℕ
link_of None = 0
link_of (Some f) = f.link

-- where the fingers stand, their links lead to the end or to entries in use
abbrev pub LinksIn : {X : Type 0} → Option (Fingers X) → ℕ → Type 0
LinksIn f used =
    (link_of (option_map (λ g. g.put) f) ≤ used) × (link_of (option_map (λ g. g.take) f) ≤ used) × (link_of (option_map (λ g. g.ask) f) ≤ used)

-- the count that is kept beside the ask finger
abbrev pub count_of : {X : Type 0} → Option (Fingers X) → ℕ
count_of None = 0
count_of (Some f) = f.count

-- a finger's height stands at the finger's link
abbrev pub Stood : {X : Type 0} → (X → X → Bool) → List (Entry X) → ℕ → Option (Finger X) → Type 0
Stood le es used None = Unit {0}
Stood le es used (Some f) = StandsAt le es used f.height f.link

-- where the fingers stand, each one's height stands at its link
pub record AllStand {X : Type 0} (le : X → X → Bool) (es : List (Entry X)) (used : ℕ) (f : Option (Fingers X)) : Type 0 where
  pub put : Stood le es used (option_map (λ g. g.put) f)
  pub take : Stood le es used (option_map (λ g. g.take) f)
  pub ask : Stood le es used (option_map (λ g. g.ask) f)

-- the count is that of the held heights that are not higher than the ask finger
abbrev pub Counted : {X : Type 0} → (X → X → Bool) → List X → Option (Fingers X) → Type 0
Counted le held None = Unit {0}
Counted le held (Some f) = f.count ≡ up_to le held f.ask.height

-- the link of a finger that is not lower than h and stood where h stood goes with h; others stay
abbrev pub followed_link : {X : Type 0} → (X → X → Bool) → Finger X → ℕ → ℕ → X → ℕ
followed_link le f from to h = cond (f.link == from) (cond (le h f.height) to f.link) f.link

-- a finger, when the height h that stood at the link `from` came to stand at the link `to`
abbrev pub followed : {X : Type 0} → (X → X → Bool) → Finger X → ℕ → ℕ → X → Finger X
followed le f from to h = record { height = f.height; link = followed_link le f from to h }

-- a link, when one height of the entry `at` was removed: if the entry went, what stood at it stands at the spot's link, and the
-- last entry has its memory
abbrev pub left_link : (at : ℕ) → Spot → (used i : ℕ) → ℕ
left_link at spot used i = cond (spot.used == used) i (by_name used at (by_name at spot.link i))

-- a finger, when one height of the entry `at` was removed
abbrev pub left : {X : Type 0} → Finger X → ℕ → Spot → ℕ → Finger X
left f at spot used = record { height = f.height; link = left_link at spot used f.link }

-- the fingers after a put: its own stands at the height, and one height more is counted if the ask finger is not lower
abbrev pub after_put : {X : Type 0} → (X → X → Bool) → Fingers X → (from to : ℕ) → X → Fingers X
after_put le f from to h =
    record {
      put = record { height = h; link = to };
      take = followed le f.take from to h;
      ask = followed le f.ask from to h;
      count = cond (le h f.ask.height) (f.count + 1) f.count;
    }

-- the fingers after a take: its own stands at the height, and one height less is counted if the ask finger is not lower
abbrev pub after_take : {X : Type 0} → (X → X → Bool) → Fingers X → (at : ℕ) → Spot → (used : ℕ) → X → ℕ → Fingers X
after_take le f at spot used h held =
    record {
      put = left f.put at spot used;
      take = left (record { height = h; link = at }) at spot used;
      ask = left f.ask at spot used;
      count = min (cond (le h f.ask.height) (f.count - 1) f.count) held;
    }

-- the fingers after an ask: its own stands at the height, with another count
abbrev pub after_ask : {X : Type 0} → Fingers X → ℕ → X → ℕ → Fingers X
after_ask f link h count = record { put = f.put; take = f.take; ask = record { height = h; link = link }; count = count }

-- the count up to a height, when the ask finger passed so many heights on its way there
abbrev pub counted_up : {X : Type 0} → (X → X → Bool) → Fingers X → ℕ → X → ℕ
counted_up le f passed h = cond (le f.ask.height h) (f.count + passed) (f.count - passed)
