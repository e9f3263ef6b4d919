-- What a finger list shows, and when it is in order.
use Rattle.std.specs.Prelude.{Bool}
use Rattle.counters.specs.Calls.{View}
use Rattle.finger_list.specs.declared.list.FingerList.{FingerList}
use Rattle.finger_list.specs.Views.{shown, Fit}

-- what a finger list shows
abbrev pub view_of : {X : Type 0} → FingerList X → View X
view_of s = shown s.entries.now s.used s.mileage s.fingers

-- the list is in order, and its fingers stand where they should
abbrev pub Standing : {X : Type 0} → (X → X → Bool) → FingerList X → Type 0
Standing le s = Fit le s.entries.now s.used s.fingers
