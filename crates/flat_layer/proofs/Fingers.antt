-- A layer is counted by a finger list exactly if the counter below is.
use Rattle.std.proofs.Common.{◌≡◌, Option, refl}
use Rattle.counters.specs.Calls.{StepRule, unstated, shifting, waiting, fingers}
use Rattle.flat_layer.specs.declared.remembered.Remembered.{Remembered}
use Rattle.flat_layer.specs.Layers.{rule_over}
use Rattle.counters.specs.Fingers.{by_fingers}

-- the layer's rule is that of a finger list exactly if the rule below is
pub by_fingers_over : {X : Type 0} (last : Option (Remembered X)) (r : StepRule X) → by_fingers (rule_over last r) ≡ by_fingers r
by_fingers_over last unstated = refl
by_fingers_over last shifting = refl
by_fingers_over last waiting = refl
by_fingers_over last (fingers p t a) = refl
