use Rattle.std.proofs.Common.{◌≡◌, replicate, ◌+◌, ◌-◌, ◌*◌, ◌/◌, ◌%◌, length, ap, ◌∙◌, sym, subst, arith, w16, SFits, rules, below_more}
use Rattle.std.proofs.lemmas.Slice.{take-put_mid, drop-put_mid}
use Rattle.conversion.specs.Converting.{Converted}
use Rattle.conversion.proofs.Buffers.{pair_metres, metres_stored, metres_same, front_converted, rest_same}
use Rattle.conversion.proofs.store.store_as_float.Goals as goal

pub loop-index-preserved : goal.loop-index-preserved
loop-index-preserved c =
    let inv = c.loop-index.invariant in
    let fits : SFits w16 c.from_be_bytes.result = search rules in
    let read = pair_metres c.args.whole.now _ c.loop-index.index c.as_chunks.ensures.front (omega arith) in (
      below_more _ _
          (λ i h. metres_same c.args.whole.now c.store_pattern.new.out c.loop-index.out (c.loop-index.index * 4) i c.store_pattern.ensures.before (omega arith) (inv.0 i h))
          (metres_stored _ _ _ _ c.store_pattern.ensures.stored fits (c.from_be_bytes.ensures ∙ read) c.float_pattern.ensures),
      λ k h. c.store_pattern.ensures.after k (omega arith) ∙ inv.1 k (omega arith),
    )

pub returns : goal.returns
returns c =
    let inv = c.loop-index.invariant in
    let whole = c.args.whole.now in
    let filled = c.loop-index.out in
    let front = length c.as_chunks.result.0.now * 4 in
    let size = front + length c.as_chunks.result.1.now in
    let all : c.loop-index.index ≡ length whole / 2 = omega arith in
    let zeros : c.fill.new.self ≡ replicate (length whole % 2) 0 = c.fill.ensures.after (λ y h. h) ∙ ap (λ n. replicate n 0) (omega arith) in (
      omega arith,
      subst (Converted whole) (sym (take-put_mid front (size - front) filled c.fill.new.self size (omega arith) (omega arith)))
          (front_converted whole filled c.fill.new.self front (omega arith) (omega arith) zeros (λ i h. inv.0 i (omega arith))),
      drop-put_mid front (size - front) filled c.fill.new.self size (omega arith) (omega arith) (omega arith) ∙ rest_same size filled c.args.out.now (omega arith) (λ k far. inv.1 k (omega arith)),
    )
