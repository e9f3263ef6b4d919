-- The parts of a binary32 pattern: 1 sign bit, 8 exponent bits, 23 fraction bits.
use Rattle.std.specs.Prelude.{ℕ, ◌/◌, ◌%◌, cond, ◌==◌}
use Rattle.heights.specs.declared.finite.FloatCause.{FloatCause}
use Rattle.heights.specs.declared.finite.FloatCause.TheVariants.{Infinite, NotANumber}

-- the eight exponent bits; all ones is 255
abbrev pub exponent : ℕ → ℕ
exponent pattern = pattern / 8388608 % 256

-- the 23 fraction bits
abbrev pub fraction : ℕ → ℕ
fraction pattern = pattern % 8388608

-- why a pattern whose exponent bits are all ones is no height
abbrev pub unread_cause : ℕ → FloatCause
unread_cause pattern = cond (fraction pattern == 0) Infinite NotANumber

-- the number of each cause
abbrev pub cause_number : FloatCause → ℕ
cause_number Infinite = 1
cause_number NotANumber = 2
