-- Zeros stand where the text stood, and after it.
use Rattle.std.proofs.Common.{◌≡◌, ◌+◌, ◌-◌, ◌++◌, ◌∙◌, ℕ, length, drop, replicate, ap, arith, length-take-le}
use Rattle.std.proofs.lemmas.List.{replicate-append-replicate, length-replicate}
use Rattle.console_text.proofs.text_buffer.TextBuffer.clear.Goals as goal

pub invariant_of-self : goal.invariant_of-self
invariant_of-self g c =
    let t = c.self.inside in
    let behind = drop t.len t.bytes in
    let zeros : c.erase.new.bytes ≡ replicate t.len 0 = c.erase.ensures ∙ ap (λ n. replicate n 0) (length-take-le t.len t.bytes c.self.invariant.1) in
    let all : t.len + (g.row.N - t.len) ≡ g.row.N - 0 = omega arith in
    let cleared : c.erase.new.bytes ++ behind ≡ replicate (g.row.N - 0) 0 =
    ap (λ x. x ++ behind) zeros ∙ ap (λ x. replicate t.len 0 ++ x) c.self.invariant.2 ∙ replicate-append-replicate t.len (g.row.N - t.len) 0 ∙ ap (λ n. replicate n 0) all in
    let size : length (c.erase.new.bytes ++ behind) ≡ g.row.N - 0 = ap length cleared ∙ length-replicate {A = ℕ} (g.row.N - 0) 0 in (
      omega (arith, size),
      omega arith,
      cleared,
    )
