-- Zeros stand after the byte.
use Rattle.std.proofs.Common.{◌+◌, ◌∙◌, arith, rules}
use Rattle.std.proofs.lemmas.List.{drop-set-lt}
use Rattle.console_text.proofs.Room.{zeros_from}
use Rattle.console_text.proofs.text_buffer.TextBuffer.push.Goals as goal

pub invariant_of-self : goal.invariant_of-self
invariant_of-self g c =
    let t = c.self.inside in (
      search rules,
      search rules,
      drop-set-lt (t.len + 1) t.bytes t.len c.args.byte (omega arith) ∙ zeros_from t.bytes g.row.N t.len 1 c.self.invariant.2,
    )
