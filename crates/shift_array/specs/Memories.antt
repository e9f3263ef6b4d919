-- What a shift array over its memory shows, and when it is in order.
use Rattle.std.specs.Prelude.{Bool, take}
use Rattle.counters.specs.Calls.{View}
use Rattle.shift_array.specs.declared.array.ShiftArray.{ShiftArray}
use Rattle.shift_array.specs.Entries.{Climbing}
use Rattle.shift_array.specs.Views.{shown}

-- what a shift array shows
abbrev pub view_of : {X : Type 0} → ShiftArray X → View X
view_of s = shown s.entries.now s.used s.mileage

-- the used entries climb
abbrev pub Sorted : {X : Type 0} → (X → X → Bool) → ShiftArray X → Type 0
Sorted le s = Climbing le (take s.used s.entries.now)
