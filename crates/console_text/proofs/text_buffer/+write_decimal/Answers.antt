-- The digits of the tenth, if there are any, and the last digit.
use Rattle.std.proofs.Common.{◌≡◌, ◌+◌, ◌/◌, ◌%◌, ◌^◌, ◌<◌, [], ◌∷◌, ◌++◌, length, take, decimal, ap, ◌∙◌, arith}
use Rattle.std.proofs.lemmas.List.{take_more_set}
use Rattle.console_text.proofs.Spelling.{decimal_short, last_digit, length_tenth, one_digit}
use Rattle.console_text.proofs.text_buffer.+write_decimal.Goals as goal
use Rattle.console_text.proofs.text_buffer.+write_decimal.Goals.{then-number-ge10, else-number-ge10}

pub bounds-room-before : goal.bounds-room-before
bounds-room-before t c =
    let n = c.args.number in
    let fits : n < 2 ^ 64 = omega arith in
    let short = decimal_short n fits in
    elim c.if-number-ge10.branch [
      | then-number-ge10 w ↦ omega (arith, length_tenth n w.if-number-ge10.true fits, w.before-is, w.write_decimal-before.ensures.count)
      | else-number-ge10 w ↦ omega (arith, w.before-is)
    ]

pub returns-clause-digits : goal.returns-clause-digits
returns-clause-digits t c =
    let n = c.args.number in
    let fits : n < 2 ^ 64 = omega arith in
    let short = decimal_short n fits in
    let room = c.if-number-ge10.room in
    let before = c.if-number-ge10.before in
    let digit = 48 + n % 10 in
    elim c.if-number-ge10.branch [
      | then-number-ge10 w ↦
          let inside : before < length room = omega (arith, length_tenth n w.if-number-ge10.true fits, w.before-is, w.write_decimal-before.ensures.count) in
          let front : take before room ≡ decimal (n / 10) =
          ap (λ k. take k room) w.before-is ∙ ap (take w.write_decimal-before.result) w.room-is ∙ w.write_decimal-before.ensures.digits in
          last_digit [] (take before room) _ n w.if-number-ge10.true fits front (take_more_set room before digit inside)
      | else-number-ge10 w ↦
          let inside : before < length room = omega (arith, w.before-is) in
          take_more_set room before digit inside ∙ ap (λ k. take k room ++ digit ∷ []) w.before-is ∙ one_digit n (omega arith)
    ]

pub returns-clause-count : goal.returns-clause-count
returns-clause-count t c =
    let n = c.args.number in
    let fits : n < 2 ^ 64 = omega arith in
    elim c.if-number-ge10.branch [
      | then-number-ge10 w ↦ omega (arith, length_tenth n w.if-number-ge10.true fits, w.before-is, w.write_decimal-before.ensures.count)
      | else-number-ge10 w ↦ omega (arith, w.before-is, ap length (one_digit n (omega arith)))
    ]

pub returns-clause-few : goal.returns-clause-few
returns-clause-few t c =
    let n = c.args.number in
    let fits : n < 2 ^ 64 = omega arith in
    let short = decimal_short n fits in
    elim c.if-number-ge10.branch [
      | then-number-ge10 w ↦ omega (arith, length_tenth n w.if-number-ge10.true fits, w.before-is, w.write_decimal-before.ensures.count)
      | else-number-ge10 w ↦ omega (arith, w.before-is)
    ]
