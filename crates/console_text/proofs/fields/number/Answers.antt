-- One digit more, and the whole field.
use Rattle.std.proofs.Common.{◌≡◌, ◌+◌, ◌-◌, ◌*◌, ◌^◌, ◌≤◌, get_or, pow-suc, add-one, arith, rules, below_more}
use native.Mathlib.Nat.{pow-le-pow_right}
use Rattle.std.proofs.lemmas.List.Sums.{fold_more}
use Rattle.console_text.specs.Numerals.{Digit}
use Rattle.console_text.proofs.Numerics.{decimal_digit}
use Rattle.console_text.proofs.fields.number.Goals as goal

pub overflow_mul-value : goal.overflow_mul-value
overflow_mul-value c =
    let small : 10 ^ c.loop-byte.byte-index ≤ 100000000 = pow-le-pow_right {n = 10} (omega arith) {i = c.loop-byte.byte-index} {j = 8} (omega arith) in
    let below = c.loop-byte.invariant.1 in
    search rules

pub loop-byte-preserved : goal.loop-byte-preserved
loop-byte-preserved c =
    let more = fold_more (λ n c. 10 * n + (c - 48)) 0 c.args.field.now c.loop-byte.byte-index 0 (omega arith) in
    let value = c.in_ok-value.ensures.value in
    let digit = decimal_digit _ _ (omega (arith, value.0, value.1)) c.in_ok-value.ensures.cases in
    let ten : 10 ^ (c.loop-byte.byte-index + 1) ≡ 10 ^ c.loop-byte.byte-index * 10 = rw add-one (pow-suc 10 c.loop-byte.byte-index) in (
      omega (arith, c.loop-byte.invariant.0),
      omega (arith, c.loop-byte.invariant.1),
      below_more (λ k. Digit (get_or c.args.field.now k 0)) _ c.loop-byte.invariant.2 digit.0,
    )
