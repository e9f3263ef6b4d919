-- Whole metres and the patterns of their numbers are in the same order.
use Rattle.std.proofs.Common.{◌≡◌, ℕ, zero, suc, ◌+◌, ◌-◌, ◌*◌, ◌%◌, ◌^◌, ◌<◌, ◌≤◌, leb, ℤ, pos, negsuc, refl, ap, ◌∙◌, subst, ⊎_elim, mul-lt-mul_of_pos_right, arith, pow_pos, pow_mono}
use native.Mathlib.Nat.{pow-succ'}
use lib.Signed.{le_z}
use Rattle.heights.specs.Patterns.{exponent, fraction}
use Rattle.heights.specs.Float.{key, float_not_higher}
use Rattle.std.proofs.lemmas.Bool.{cases_order}
use Rattle.std.proofs.lemmas.Nat.{mul-le}
use Rattle.std.proofs.lemmas.Bool.Decides.{nat_tests}
use Rattle.std.proofs.lemmas.Int.{ints}
use Rattle.conversion.specs.Metres.{sign, Normal, Magnitude, IsMetres}

-- the exponent and fraction bits as one number
abbrev place : ℕ → ℕ
place p = p % 2147483648

-- the number that a significand and an exponent write, in units of the least
abbrev written : ℕ → ℕ
written p = (8388608 + fraction p) * 2 ^ exponent p

-- a significand is below that of the next exponent
under_next : (s e d : ℕ) → s < 16777216 → e < d → s * 2 ^ e < 8388608 * 2 ^ d
under_next s e d l h =
    let step : 2 ^ suc e ≤ 2 ^ d = pow_mono h in
    let twice : 2 ^ suc e ≡ 2 * 2 ^ e = pow-succ' 2 e in
    let top : s * 2 ^ e < 16777216 * 2 ^ e = mul-lt-mul_of_pos_right l (pow_pos e) in
    omega arith

-- a later significand and exponent write a greater number
later : (e f d g : ℕ) → f < 8388608 → e * 8388608 + f < d * 8388608 + g → g < 8388608 → (8388608 + f) * 2 ^ e < (8388608 + g) * 2 ^ d
later e f d g low h high =
    ⊎_elim
    (λ same. let under : 8388608 + f < 8388608 + g = omega arith in subst (λ (n : ℕ). (8388608 + f) * 2 ^ e < (8388608 + g) * 2 ^ n) same (mul-lt-mul_of_pos_right under (pow_pos e)))
    (⊎_elim
    (λ less. omega (arith, under_next (8388608 + f) e d (omega arith) less, mul-le 8388608 (2 ^ d) (8388608 + g) (2 ^ d) (omega arith) (omega arith)))
    (λ more. omega arith))
    (cases_order e d)

-- a later place writes a greater number
written_later : (p q : ℕ) → place p < place q → written p < written q
written_later p q h = later (exponent p) (fraction p) (exponent q) (fraction q) (omega arith) (omega arith) (omega arith)

-- one place writes one number
written_same : (p q : ℕ) → place p ≡ place q → written p ≡ written q
written_same p q h =
    let exponents : exponent p ≡ exponent q = omega arith in
    let fractions : fraction p ≡ fraction q = omega arith in
    ap (λ f. (8388608 + f) * 2 ^ exponent p) fractions ∙ ap (λ e. (8388608 + fraction q) * 2 ^ e) exponents

-- magnitudes are in the order of their places
same_places : (p q n m : ℕ) → Magnitude p n → Magnitude q m → leb n m ≡ leb (place p) (place q)
same_places p q zero m a b = grind (arith, nat_tests)
same_places p q (suc n) zero a b = grind (arith, nat_tests)
same_places p q (suc n) (suc m) a b = grind (arith, nat_tests, written_same p q, written_later p q, written_later q p)

-- the key of a pattern whose sign bit is clear
key_clear : (p : ℕ) → sign p ≡ 0 → key p ≡ pos (place p)
key_clear p h = grind (arith, nat_tests)

-- the key of a pattern whose sign bit is set
key_set : (p n : ℕ) → sign p ≡ 1 → Normal p n → key p ≡ negsuc (place p - 1)
key_set p n h a = grind (arith, ints, nat_tests)

-- whole metres compare as the patterns of their numbers do
pub same_order : (a b : ℤ) (p q : ℕ) → IsMetres p a → IsMetres q b → le_z a b ≡ float_not_higher (record { bits = p }) (record { bits = q })
same_order (pos n) (pos m) p q a b = rw (key_clear p a.0, key_clear q b.0) (same_places p q n m a.1 b.1)
same_order (pos n) (negsuc m) p q a b = rw (key_clear p a.0, key_set q (suc m) b.0 b.1) refl
same_order (negsuc n) (pos m) p q a b = rw (key_set p (suc n) a.0 a.1, key_clear q b.0) refl
same_order (negsuc n) (negsuc m) p q a b = rw (key_set p (suc n) a.0 a.1, key_set q (suc m) b.0 b.1) (grind (arith, nat_tests, same_places q p (suc m) (suc n) b.1 a.1))
