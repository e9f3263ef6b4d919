-- The entries of a memory, and the heights that they stand for.
use Rattle.std.specs.Prelude.{ℕ, ◌<◌, ◌≤◌, List, [], ◌∷◌, ◌++◌, take, drop, replicate, slice_index_or}
use Rattle.finger_list.specs.declared.entry.Entry.{Entry}

-- the entries in use: entry 0 is the end of the list, and those past the used ones are free
abbrev pub in_use : {X : Type 0} → List (Entry X) → ℕ → List (Entry X)
in_use es used = take used (drop 1 es)

-- the height of the entry i; d stands for what lies past the memory
abbrev pub height_at : {X : Type 0} → List (Entry X) → Entry X → ℕ → X
height_at es d i = (slice_index_or es i d).height

-- the number of an entry
abbrev pub number_at : {X : Type 0} → List (Entry X) → Entry X → ℕ → ℕ
number_at es d i = (slice_index_or es i d).number

-- the link up of an entry
abbrev pub next_at : {X : Type 0} → List (Entry X) → Entry X → ℕ → ℕ
next_at es d i = (slice_index_or es i d).next

-- the link down of an entry
abbrev pub prev_at : {X : Type 0} → List (Entry X) → Entry X → ℕ → ℕ
prev_at es d i = (slice_index_or es i d).prev

-- the heights that entries stand for: each height as often as its number says
abbrev pub heights : {X : Type 0} → List (Entry X) → List X
heights [] = []
heights (e ∷ es) = replicate e.number e.height ++ heights es

-- the heights held in a memory
abbrev pub held_in : {X : Type 0} → List (Entry X) → ℕ → List X
held_in es used = heights (in_use es used)

-- no number of an entry in use is 0
abbrev pub Positive : {X : Type 0} → List (Entry X) → ℕ → Type 0
Positive {X} es used = (i : ℕ) (d : Entry X) → 0 < i → i ≤ used → 0 < number_at es d i
