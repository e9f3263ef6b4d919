-- The law of two boxes.
use Rattle.std.specs.Prelude.{◌≡◌, ℕ, Bool, List, length}
use Rattle.heights.specs.Meaning.{Storage}
use Rattle.grid.specs.declared.CellRecord.{CellRecord}
use Rattle.siting_box.specs.Contents.{Contents}
use Rattle.runs.specs.declared.call.Call.{Call}
use Rattle.runs.specs.Matching.{Matched, EqualPlaces}
use Rattle.runs.specs.Running.{Sight, Run, new_box}

-- where two matching lists of calls come to two new boxes with equally many records, and partnered sweeps get counters with
-- equally many places, the same is seen of both boxes after each call: its denial or its answer, and every count on record
abbrev pub BoxesAgree : {X C Y D : Type 0} → Storage X C → Storage Y D → (X → X → Bool) → (Y → Y → Bool) → Type 0
BoxesAgree {X} {C} {Y} {D} k k' le le' =
    (records : List (CellRecord X)) (records' : List (CellRecord Y)) (calls calls' : List Call) (places places' : List ℕ) (sights sights' : List Sight) (last : Contents X) (last' : Contents Y) → length records ≡ length records' → Matched k k' le le' calls calls' → EqualPlaces calls places places'
    → Run k le (new_box records) calls places sights last → Run k' le' (new_box records') calls' places' sights' last' → sights ≡ sights'
