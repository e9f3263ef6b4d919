-- Stored heights in whole metres, and the same heights stored as binary32 numbers.
use Rattle.std.specs.Prelude.{◌≡◌, ℕ, ◌+◌, ◌*◌, ◌/◌, ◌%◌, ◌<◌, List, length, ℤ, slice_index}
use Rattle.std.specs.Int.{w16}
use Rattle.std.proofs.Common.{to_z}
use Rattle.conversion.specs.Metres.{IsMetres}

-- the metres that two bytes store, the most significant first
abbrev pub metres_at : List ℕ → ℕ → ℤ
metres_at bytes i = to_z w16 (slice_index bytes (i * 2) * 256 + slice_index bytes (i * 2 + 1))

-- the pattern that four bytes store, the most significant first
abbrev pub pattern_at : List ℕ → ℕ → ℕ
pattern_at bytes i = slice_index bytes (i * 4) * 16777216 + slice_index bytes (i * 4 + 1) * 65536 + slice_index bytes (i * 4 + 2) * 256 + slice_index bytes (i * 4 + 3)

-- how many bytes so many bytes are converted to: four for two, and one for one that is left over
abbrev pub converted_length : ℕ → ℕ
converted_length n = n / 2 * 4 + n % 2

-- the second bytes are the first ones converted: each pattern is the number of the metres at its index, and a 0 stands for a byte
-- that is left over
pub record Converted (whole floats : List ℕ) : Type 0 where
  pub long : length floats ≡ converted_length (length whole)
  pub heights : (i : ℕ) → i < length whole / 2 → IsMetres (pattern_at floats i) (metres_at whole i)
  pub left_over : length whole % 2 ≡ 1 → slice_index floats (length whole / 2 * 4) ≡ 0
