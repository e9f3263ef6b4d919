-- The field is the word after the space.
use Rattle.std.proofs.Common.{arith, rules}
use Rattle.console_text.proofs.Cutting.{first_and_rest}
use Rattle.console_text.proofs.Numerics.{no_number, number_then}
use Rattle.console_text.proofs.fields.number_field.Goals as goal

pub returns-in_err-number : goal.returns-in_err-number
returns-in_err-number c =
    let parts = first_and_rest c.args.text.now 32 (omega arith) (search rules) in
    let none = no_number _ _ _ parts c.cut.ensures.front c.in_err-number.ensures in
    rw c.from_residual.ensures none

pub returns : goal.returns
returns c =
    let parts = first_and_rest c.args.text.now 32 (omega arith) (search rules) in
    number_then _ _ _ _ _ parts c.cut.ensures.front c.cut.ensures.back c.in_ok-number.ensures
