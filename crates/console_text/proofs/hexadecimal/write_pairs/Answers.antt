-- Each pair is of two digits and writes one byte more.
use Rattle.std.proofs.Common.{◌≡◌, ◌+◌, ◌*◌, ◌/◌, ◌++◌, length, take, drop, ap, ◌∙◌, arith}
use Rattle.std.proofs.lemmas.List.{take_all}
use Rattle.console_text.specs.Hexadecimal.{bytes_of}
use Rattle.console_text.proofs.Pairs.{length_bytes_of, get_or_bytes_of, chunk_at, front_more}
use Rattle.console_text.proofs.hexadecimal.write_pairs.Goals as goal

pub hex_value-requires : goal.hex_value-requires
hex_value-requires c =
    let chunk = chunk_at (length c.args.digits.now / 2) c.loop-i.i c.args.digits.now (omega arith) in
    rw (c.as_chunks.ensures.front, chunk.0) (c.requires.digits.digits (2 * c.loop-i.i) (omega arith))

pub hex_value-requires-in-loop-i : goal.hex_value-requires-in-loop-i
hex_value-requires-in-loop-i c =
    let chunk = chunk_at (length c.args.digits.now / 2) c.loop-i.i c.args.digits.now (omega arith) in
    rw (c.as_chunks.ensures.front, chunk.1) (c.requires.digits.digits (2 * c.loop-i.i + 1) (omega arith))

pub loop-i-preserved : goal.loop-i-preserved
loop-i-preserved c =
    let digits = c.args.digits.now in
    let out = c.args.out.now in
    let i = c.loop-i.i in
    let chunk = chunk_at (length digits / 2) i digits (omega arith) in
    let byte = get_or_bytes_of digits i (omega arith) in
    let long = length_bytes_of digits in
    rw (c.loop-i.invariant, c.hex_value.ensures.value, c.hex_value-in-loop-i.ensures.value, c.as_chunks.ensures.front, chunk.0, chunk.1, ← byte)
    (front_more out (bytes_of digits) i (omega arith) (omega arith))

pub returns : goal.returns
returns c =
    let digits = c.args.digits.now in
    let half = length digits / 2 in
    let end : c.loop-i.i ≡ half = omega arith in
    let long = length_bytes_of digits in
    c.loop-i.invariant
    ∙ ap (λ k. take k (bytes_of digits) ++ drop k c.args.out.now) end
    ∙ ap (λ t. t ++ drop half c.args.out.now) (take_all half (bytes_of digits) (omega arith))
