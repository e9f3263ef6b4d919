-- Stored heights: bytes in which one height follows another.
use Rattle.std.specs.Prelude.{ℕ, zero, suc, ◌*◌, List, [], ◌∷◌, ◌++◌, take, drop, Ok, Err, Result}
use Rattle.heights.specs.Meaning.{Storage}

-- what the stored height at an index reads as
abbrev pub stored_at : {X C : Type 0} → Storage X C → List ℕ → ℕ → Result X C
stored_at k bytes i = k.reads (take k.wide (drop (i * k.wide) bytes))

-- one more reading after others: the first that fails stays
abbrev pub read_more : {X C : Type 0} → Result (List X) (ℕ × C) → ℕ → Result X C → Result (List X) (ℕ × C)
read_more (Err e) i r = Err e
read_more (Ok hs) i (Ok h) = Ok (hs ++ (h ∷ []))
read_more (Ok hs) i (Err cause) = Err (i, cause)

-- what the first so many stored heights read as: all of them, or the index and the cause of the first that does not read
abbrev pub read_first : {X C : Type 0} → Storage X C → List ℕ → ℕ → Result (List X) (ℕ × C)
read_first k bytes zero = Ok []
read_first k bytes (suc i) = read_more (read_first k bytes i) i (stored_at k bytes i)
