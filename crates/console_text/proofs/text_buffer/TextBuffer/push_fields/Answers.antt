-- One field more.
use Rattle.std.proofs.Common.{length, ap, ◌∙◌, arith, length-append}
use Rattle.console_text.proofs.Spelling.{fields_more}
use Rattle.console_text.proofs.text_buffer.TextBuffer.push_fields.Goals as goal

pub loop-number-preserved : goal.loop-number-preserved
loop-number-preserved g c =
    let len = ap length c.push_text.ensures ∙ length-append c.loop-number.self _ in (
      rw (c.push_number.ensures.text, c.push_text.ensures, c.loop-number.invariant.0) (fields_more c.args.self.now c.args.numbers.now c.loop-number.number-index (omega arith)),
      omega (arith, len, c.push_number.ensures.short, c.loop-number.invariant.1),
    )
