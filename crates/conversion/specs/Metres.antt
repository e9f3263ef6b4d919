-- Whole metres as binary32 numbers.
use Rattle.std.specs.Prelude.{◌≡◌, ℕ, zero, suc, ◌+◌, ◌*◌, ◌/◌, ◌^◌, ◌<◌, ℤ, pos, negsuc}
use Rattle.heights.specs.Patterns.{exponent, fraction}

-- the sign bit: 1 where the number is negative
abbrev pub sign : ℕ → ℕ
sign pattern = pattern / 2147483648

-- a normal number: its exponent bits are neither all zeros nor all ones, and its fraction bits with a 1 in front of them, times
-- a power of two, are so many whole metres
pub record Normal (pattern metres : ℕ) : Type 0 where
  pub above_least : 0 < exponent pattern
  pub below_most : exponent pattern < 255
  pub value : (8388608 + fraction pattern) * 2 ^ exponent pattern ≡ metres * 2 ^ 150

-- the exponent and fraction bits write so many metres: for none they are all zeros
abbrev pub Magnitude : ℕ → ℕ → Type 0
Magnitude pattern zero = (exponent pattern ≡ 0) × (fraction pattern ≡ 0)
Magnitude pattern (suc n) = Normal pattern (suc n)

-- a binary32 pattern is the number of so many whole metres; the zero is plus zero
abbrev pub IsMetres : ℕ → ℤ → Type 0
IsMetres pattern (pos n) = (sign pattern ≡ 0) × Magnitude pattern n
IsMetres pattern (negsuc n) = (sign pattern ≡ 1) × Magnitude pattern (suc n)
