-- What a layer shows of the counter below, and when it remembers rightly.
use Rattle.std.specs.Prelude.{◌≡◌, ◌^◌, ◌≤◌, Bool, true, Some, None, Option}
use Rattle.heights.specs.Order.{level}
use Rattle.counters.specs.declared.counter.Counter.{Ghosts}
use Rattle.counters.specs.Held.{up_to}
use Rattle.counters.specs.Calls.{View, StepRule, unstated, shifting, waiting, fingers}
use Rattle.flat_layer.specs.declared.remembered.Remembered.{Remembered}
use Rattle.flat_layer.specs.declared.layer.FlatLayer.{FlatLayer}

-- where the layer's ask finger stands: at the remembered height, else at the finger a below
abbrev pub ask_finger : {X : Type 0} → X → Option (Remembered X) → X
ask_finger a None = a
ask_finger a (Some m) = m.height

-- the layer's rule of steps: the one below, with the layer's ask finger
abbrev pub rule_over : {X : Type 0} → Option (Remembered X) → StepRule X → StepRule X
rule_over last unstated = unstated
rule_over last shifting = shifting
rule_over last waiting = waiting
rule_over last (fingers p t a) = fingers p t (ask_finger a last)

-- what a layer shows: what the counter below shows, with the layer's rule
abbrev pub view_over : {X : Type 0} → Option (Remembered X) → View X → View X
view_over last v = record { held = v.held; places = v.places; mileage = v.mileage; rule = rule_over last v.rule }

-- where the rule has an ask finger, it stands at a height level with h
abbrev pub AskedAt : {X : Type 0} → (X → X → Bool) → StepRule X → X → Type 0
AskedAt le unstated h = Unit {0}
AskedAt le shifting h = Unit {0}
AskedAt le waiting h = Unit {0}
AskedAt le (fingers p t a) h = level le a h ≡ true

-- what is remembered is right of a counter that shows v: so many held heights are not higher, an ask finger stands level;
-- and since a call was told, the mileage is within its bound
pub record Recalls {X : Type 0} (le : X → X → Bool) (v : View X) (m : Remembered X) : Type 0 where
  pub count : m.count ≡ up_to le v.held m.height
  pub mileage : v.mileage ≤ 2 ^ 62
  pub finger : AskedAt le v.rule m.height

-- what is remembered, if anything, is right
abbrev pub Remembers : {X : Type 0} → (X → X → Bool) → View X → Option (Remembered X) → Type 0
Remembers le v None = Unit {0}
Remembers le v (Some m) = Recalls le v m

-- what a layer shows, over any counter
abbrev pub layer_view : {S X : Type 0} → Ghosts S X → FlatLayer S X → View X
layer_view below layer = view_over layer.last (below.view layer.counter)

-- the counter below is in order, and what is remembered is right
abbrev pub LayerSound : {S X : Type 0} → (X → X → Bool) → Ghosts S X → FlatLayer S X → Type 0
LayerSound le below layer = below.sound layer.counter × Remembers le (below.view layer.counter) layer.last
