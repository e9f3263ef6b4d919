-- What a shift array shows, and what always holds of its memory.
use Rattle.std.specs.Prelude.{◌≡◌, ℕ, ◌^◌, ◌≤◌, List, length, take}
use Rattle.counters.specs.Calls.{View, places_of, shifting}
use Rattle.shift_array.specs.declared.entry.Entry.{Entry}
use Rattle.shift_array.specs.Entries.{heights, Positive}

-- what a shift array shows: the heights of its used entries, the places of its memory, its mileage
abbrev pub shown : {X : Type 0} → List (Entry X) → (used mileage : ℕ) → View X
shown entries used mileage = record { held = heights (take used entries); places = places_of (length entries); mileage = mileage; rule = shifting }

-- the used entries lie in the memory and have numbers above 0; as many heights are held as is noted, and no more than the places
abbrev pub Tidy : {X : Type 0} → List (Entry X) → (used held mileage : ℕ) → Type 0
Tidy entries used held mileage =
    (used ≤ length entries) × Positive (take used entries)
    × (held ≡ length (heights (take used entries))) × (held ≤ places_of (length entries)) × (mileage ≤ 2 ^ 62)
