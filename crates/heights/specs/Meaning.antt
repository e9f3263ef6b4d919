-- A height kind as a value: what specifications over any kind take in place of the type.
use Rattle.std.specs.Prelude.{ℕ, List, Result}

-- the stored width, and what so many bytes read as
pub record Storage (X C : Type 0) : Type 0 where
  pub wide : ℕ
  pub reads : List ℕ → Result X C

-- how a kind stores its heights: in so many bytes, which read so
abbrev pub storage : {X C : Type 0} → ℕ → (List ℕ → Result X C) → Storage X C
storage wide reads = record { wide = wide; reads = reads }
