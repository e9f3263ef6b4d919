-- How counts are mended.
use Rattle.std.specs.Prelude.{◌≡◌, ℕ, ◌+◌, ◌-◌, min, Bool, cond, List, slice_index_or}
use Rattle.grid.specs.declared.CellRecord.{CellRecord}
use Rattle.grid.specs.Terrain.{heights_of}

-- a count gains one where the new height counts, at most up to the largest number of 32 bits
abbrev pub gained : Bool → ℕ → ℕ
gained counts n = cond counts (min (n + 1) 4294967295) n

-- a count of n gains one where the new height counts, and loses one where the old height counted
abbrev pub mended_count : (counts counted : Bool) → ℕ → ℕ
mended_count counts counted n = cond counted (gained counts n - 1) (gained counts n)

-- the record of a cell with its count mended
abbrev pub mended : {X : Type 0} → (X → X → Bool) → (old new : X) → CellRecord X → CellRecord X
mended le old new c = record { height = c.height; count = mended_count (le new c.height) (le old c.height) c.count }

-- what it leaves to mend the counts at those indices that have a property
pub record Mended {X : Type 0} (le : X → X → Bool) (old new : X) (P : ℕ → Type 0) (before after : List (CellRecord X)) : Type 0 where
  -- every height is as before
  pub heights : heights_of after ≡ heights_of before
  -- the counts there are mended
  pub inside : (i : ℕ) (d : CellRecord X) → P i → slice_index_or after i d ≡ mended le old new (slice_index_or before i d)
  -- all other records are as before
  pub others : (i : ℕ) (d : CellRecord X) → (P i → ⊥) → slice_index_or after i d ≡ slice_index_or before i d

-- the record at an index is not higher than a height
abbrev pub not_above : {X : Type 0} → (X → X → Bool) → List (CellRecord X) → X → ℕ → Bool
not_above le records h i = le (slice_index_or (heights_of records) i h) h
