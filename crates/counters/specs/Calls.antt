-- What a counter shows, what its calls do to that, and the steps that each sort of counter tells.
use Rattle.std.specs.Prelude.{◌≡◌, ℕ, ◌+◌, ◌-◌, ◌^◌, ◌<◌, ◌≤◌, min, Bool, cond, List, [], ◌∷◌, length, Ok, Err, Result, ◌==◌}
use Rattle.heights.specs.declared.layer.Layer.{Layer}
use Rattle.heights.specs.declared.layer.Layer.TheVariants.{Counter}
use Rattle.counters.specs.declared.counter.Refusal.{Refusal}
use Rattle.counters.specs.declared.counter.Refusal.TheVariants.{Full, Missing}
use Rattle.counters.specs.Held.{Same, level_with, has_level, distinct, above, between}

-- the number of each refusal
abbrev pub refusal_number : Refusal → ℕ
refusal_number Full = 11
refusal_number Missing = 12

-- the layer of each refusal
abbrev pub refusal_layer : Refusal → Layer
refusal_layer Full = Counter
refusal_layer Missing = Counter

-- a call of a counter with the height that it is given
pub data Call (X : Type 0) : Type 0 where
  put : X → Call X
  take : X → Call X
  ask : X → Call X

-- which steps a counter tells: no more is known than a bound; those of a shift array; those of a finger list, which is
-- waiting for its first begin, or whose fingers for put, take and ask stand at three heights
pub data StepRule (X : Type 0) : Type 0 where
  unstated : StepRule X
  shifting : StepRule X
  waiting : StepRule X
  fingers : X → X → X → StepRule X

-- what a counter shows: the heights held, the number of places, the sum of the steps told since begin (the mileage), and
-- which steps it tells
pub record View (X : Type 0) : Type 0 where
  pub held : List X
  pub places : ℕ
  pub mileage : ℕ
  pub rule : StepRule X

-- the places of a memory of so many entries: three are kept, and at most 1,048,576 of the others are used
abbrev pub places_of : ℕ → ℕ
places_of entries = min (entries - 3) 1048576

-- a mileage after more steps: a sum above 2 ^ 62 stays at 2 ^ 62
abbrev pub mileage_after : ℕ → ℕ → ℕ
mileage_after mileage steps = min (mileage + steps) (2 ^ 62)

-- a shift array's steps: a height that comes new or goes for good moves each distinct held height above it
abbrev pub shift_steps : {X : Type 0} → (X → X → Bool) → List X → Call X → ℕ
shift_steps le held (put h) = cond (has_level le held h) 0 (distinct le (above le h) held)
shift_steps le held (take h) = cond (level_with le held h == 1) (distinct le (above le h) held) 0
shift_steps le held (ask h) = 0

-- the steps of a finger from a to b: the distinct held heights above the lower of the two and not above the higher
abbrev pub finger_steps : {X : Type 0} → (X → X → Bool) → List X → X → X → ℕ
finger_steps le held a b = distinct le (between le a b) held

-- the steps of a call of a finger list whose fingers stand at p, t and a: its own finger moves to the given height
abbrev pub move_steps : {X : Type 0} → (X → X → Bool) → X → X → X → List X → Call X → ℕ
move_steps le p t a held (put h) = finger_steps le held p h
move_steps le p t a held (take h) = finger_steps le held t h
move_steps le p t a held (ask h) = finger_steps le held a h

-- where the fingers stand after a call
abbrev pub fingers_after : {X : Type 0} → X → X → X → Call X → StepRule X
fingers_after p t a (put h) = fingers h t a
fingers_after p t a (take h) = fingers p h a
fingers_after p t a (ask h) = fingers p t h

-- the rule after a call
abbrev pub rule_after : {X : Type 0} → StepRule X → Call X → StepRule X
rule_after unstated call = unstated
rule_after shifting call = shifting
rule_after waiting call = waiting
rule_after (fingers p t a) call = fingers_after p t a call

-- the rule once begin was given two heights: the put and take fingers stand at the first, the ask finger at the second
abbrev pub rule_begun : {X : Type 0} → StepRule X → X → X → StepRule X
rule_begun unstated first asked = unstated
rule_begun shifting first asked = shifting
rule_begun waiting first asked = fingers first first asked
rule_begun (fingers p t a) first asked = fingers first first asked

-- the steps told are those of the rule
abbrev pub Steps : {X : Type 0} → (X → X → Bool) → StepRule X → List X → Call X → ℕ → Type 0
Steps le unstated held call steps = Unit {0}
Steps le shifting held call steps = steps ≡ shift_steps le held call
Steps le waiting held call steps = Unit {0}
Steps le (fingers p t a) held call steps = steps ≡ move_steps le p t a held call

-- what begin leaves: nothing held, mileage 0
abbrev pub begun : {X : Type 0} → View X → X → X → View X
begun v first asked = record { held = []; places = v.places; mileage = 0; rule = rule_begun v.rule first asked }

-- the heights held before and after a call: put adds its height, take removes one level with it, ask keeps all
abbrev pub Changed : {X : Type 0} → (X → X → Bool) → List X → Call X → List X → Type 0
Changed le before (put h) after = Same le after (h ∷ before)
Changed le before (take h) after = Same le before (h ∷ after)
Changed le before (ask h) after = Same le after before

-- what an accepted call that tells so many steps does to what a counter shows
pub record Did {X : Type 0} (le : X → X → Bool) (before : View X) (call : Call X) (steps : ℕ) (after : View X) : Type 0 where
  pub held : Changed le before.held call after.held
  pub places : after.places ≡ before.places
  pub mileage : after.mileage ≡ mileage_after before.mileage steps
  pub rule : after.rule ≡ rule_after before.rule call
  pub few : steps ≤ before.places
  pub exact : Steps le before.rule before.held call steps

-- put is refused exactly if the counter does not hold fewer heights than its places, and then nothing changes
abbrev pub Put : {X : Type 0} → (X → X → Bool) → View X → X → Result ℕ Refusal → View X → Type 0
Put le before h (Ok steps) after = (length before.held < before.places) × Did le before (put h) steps after
Put le before h (Err refusal) after = (before.places ≤ length before.held) × (refusal ≡ Full) × (after ≡ before)

-- take is refused exactly if no held height is level with the given one, and then nothing changes
abbrev pub Take : {X : Type 0} → (X → X → Bool) → View X → X → Result ℕ Refusal → View X → Type 0
Take le before h (Ok steps) after = (0 < level_with le before.held h) × Did le before (take h) steps after
Take le before h (Err refusal) after = (level_with le before.held h ≡ 0) × (refusal ≡ Missing) × (after ≡ before)

-- accepted calls one after another
pub data Ran {X : Type 0} (le : X → X → Bool) : View X → List (Call X) → View X → Type 0 where
  still : {v : View X} → Ran le v [] v
  next : {v u w : View X} {call : Call X} {calls : List (Call X)} → (steps : ℕ) → Did le v call steps u → Ran le u calls w → Ran le v (call ∷ calls) w
