-- Kind F: metres as IEEE 754 binary32, most significant byte first; a height is its plain 32-bit pattern.
use Rattle.std.specs.Prelude.{ℕ, ◌+◌, ◌*◌, ◌%◌, Bool, cond, List, ℤ, pos, neg_ℤ, Ok, Err, Result, ◌==◌, int_le, nat_lt, slice_index}
use Rattle.heights.specs.declared.finite.FloatCause.{FloatCause}
use Rattle.heights.specs.declared.float.FloatBits.{FloatBits}
use Rattle.heights.specs.Patterns.{exponent, unread_cause}

-- four bytes as one unsigned number
abbrev pub pattern : List ℕ → ℕ
pattern bytes = slice_index bytes 0 * 16777216 + slice_index bytes 1 * 65536 + slice_index bytes 2 * 256 + slice_index bytes 3

-- a pattern reads unless its exponent bits are all ones
abbrev pub float_reads : List ℕ → Result FloatBits FloatCause
float_reads bytes = cond (exponent (pattern bytes) == 255) (Err (unread_cause (pattern bytes))) (Ok (record { bits = pattern bytes }))

-- where a pattern stands in the order: itself where the sign bit is clear, else minus its low 31 bits
abbrev pub key : ℕ → ℤ
key bits = cond (nat_lt bits 2147483648) (pos bits) (neg_ℤ (pos (bits % 2147483648)))

-- the order of float heights is that of their keys
abbrev pub float_not_higher : FloatBits → FloatBits → Bool
float_not_higher a b = int_le (key a.bits) (key b.bits)
