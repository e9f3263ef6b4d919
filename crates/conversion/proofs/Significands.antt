-- The significand and the exponent of a number of whole metres.
use Rattle.std.proofs.Common.{◌≡◌, ℕ, ◌+◌, ◌-◌, ◌*◌, ◌^◌, ◌<◌, ◌≤◌, sym, ap, ◌∙◌, mul_assoc, mul-lt-mul_of_pos_right, pow_pos, arith}
use Rattle.std.proofs.lemmas.Nat.{pow-add, mul-le}
use Rattle.heights.specs.Patterns.{exponent, fraction}
use Rattle.conversion.specs.Metres.{Normal}

-- two powers of two make one
powers : (n i j : ℕ) → i + j ≡ n → 2 ^ i * 2 ^ j ≡ 2 ^ n
powers n i j e = sym (pow-add 2 i j) ∙ ap (λ k. 2 ^ k) e

-- a number whose highest bit is bit r, doubled until that is bit 23
pub in_place : (n r : ℕ) → r ≤ 23 → 2 ^ r ≤ n → n < 2 * 2 ^ r → (8388608 ≤ n * 2 ^ (23 - r)) × (n * 2 ^ (23 - r) < 16777216)
in_place n r few low high =
    let top : 2 ^ r * 2 ^ (23 - r) ≡ 8388608 = powers 23 r (23 - r) (omega arith) in
    let least : 2 ^ r * 2 ^ (23 - r) ≤ n * 2 ^ (23 - r) = mul-le (2 ^ r) (2 ^ (23 - r)) n (2 ^ (23 - r)) low (omega arith) in
    let most : n * 2 ^ (23 - r) < 2 * 2 ^ r * 2 ^ (23 - r) = mul-lt-mul_of_pos_right high (pow_pos (23 - r)) in
    (omega arith, omega (arith, mul_assoc 2 (2 ^ r) (2 ^ (23 - r))))

-- the pattern of a number doubled d times, so that its highest bit is bit 23
pub normal : (n d p : ℕ) → d ≤ 23 → 8388608 ≤ n * 2 ^ d → n * 2 ^ d < 16777216 → p ≡ (150 - d) * 8388608 + (n * 2 ^ d - 8388608) → Normal p n
normal n d p few low high is =
    let significand : 8388608 + fraction p ≡ n * 2 ^ d = omega arith in
    let power : exponent p ≡ 150 - d = omega arith in
    record {
      above_least = omega arith;
      below_most = omega arith;
      value = ap (λ s. s * 2 ^ exponent p) significand
          ∙ ap (λ e. n * 2 ^ d * 2 ^ e) power
          ∙ mul_assoc n (2 ^ d) (2 ^ (150 - d))
          ∙ ap (λ k. n * k) (powers 150 d (150 - d) (omega arith));
    }
