-- Zeros stand after the text.
use Rattle.std.proofs.Common.{◌+◌, ◌-◌, ◌∙◌, length, ap, arith, rules}
use Rattle.std.proofs.lemmas.Slice.{drop-put_mid}
use Rattle.console_text.proofs.Room.{zeros_from}
use Rattle.console_text.proofs.text_buffer.TextBuffer.push_text.Goals as goal

pub invariant_of-self : goal.invariant_of-self
invariant_of-self g c =
    let t = c.self.inside in
    let more = length c.args.text.now in
    let same = ap length c.copy_from_slice.ensures.after in (
      search rules,
      search rules,
      drop-put_mid t.len (t.len + more - t.len) t.bytes c.copy_from_slice.new.self (t.len + more) (omega arith) c.self.invariant.1 (omega (arith, same))
          ∙ zeros_from t.bytes g.row.N t.len more c.self.invariant.2,
    )
