-- When partnered sweeps get equal counters.
use Rattle.std.specs.Prelude.{◌≡◌, ℕ, ◌%◌, List, Some, length}
use Rattle.std.specs.List.{slice_get}
use Rattle.counters.specs.Calls.{View}
use Rattle.runs.specs.declared.call.Call.{Call}
use Rattle.runs.specs.Calling.{sweeps, form}

-- sweeps at the same place of two lists get counters with equally many places: each list has counters of its own, of which the call
-- number i gets the one with the number i % n of n
abbrev pub EqualPlacesInTurn : {X Y : Type 0} → List Call → List (View X) → List (View Y) → Type 0
EqualPlacesInTurn {X} {Y} calls counters counters' =
    (i : ℕ) (c : Call) (v : View X) (v' : View Y) → slice_get calls i ≡ Some c → form c ≡ sweeps → slice_get counters (i % length counters) ≡ Some v → slice_get counters' (i % length counters') ≡ Some v' → v.places ≡ v'.places
