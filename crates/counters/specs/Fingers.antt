-- When a counter is counted by a finger list: it is one, or it is a layer over one that is.
use Rattle.std.specs.Prelude.{Bool, true, false}
use Rattle.counters.specs.Calls.{StepRule, unstated, shifting, waiting, fingers}

-- whether the rule of steps that a counter shows is that of a finger list, before or after its first begin
abbrev pub by_fingers : {X : Type 0} → StepRule X → Bool
by_fingers unstated = false
by_fingers shifting = false
by_fingers waiting = true
by_fingers (fingers p t a) = true
