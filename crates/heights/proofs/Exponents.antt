-- A pattern whose exponent bits are not all ones is no NaN's, so it comes back from the number that it writes.
use Rattle.std.proofs.Common.{◌≡◌, ℕ, ◌^◌, ◌<◌, Bool, not, T, subst, arith}
use lib.Ieee.{Float, nan, inf, fin, binary32, is_nan, of_bits, to_bits}
use lib.Ieee.Bits.{to_bits-of_bits, nan_bits_is}
use Rattle.std.proofs.lemmas.Float.{not_nan_f32_bits}
use Rattle.heights.specs.Patterns.{exponent}

-- a number with such a pattern is not NaN
pub not_nan : (x : Float) → exponent (to_bits binary32 x) < 255 → T (not (is_nan x))
unfolding is_nan to_bits
not_nan nan h = omega arith
not_nan (inf s) h = tt
not_nan (fin s m e) h = tt

-- the pattern of the number that such a pattern writes
pub bits_back : (n : ℕ) → n < 2 ^ 32 → exponent n < 255 → to_bits binary32 (of_bits binary32 n) ≡ n
bits_back n f h = to_bits-of_bits binary32 n f (subst (λ (b : Bool). T (not b)) (nan_bits_is binary32 n) (not_nan_f32_bits n (omega arith)))
