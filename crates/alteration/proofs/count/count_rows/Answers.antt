use Rattle.std.proofs.Common.{◌≡◌, ◌+◌, ◌-◌, ◌*◌, ◌<◌, length, take, drop, sym, ap, ◌∙◌, arith, rules}
use Rattle.std.specs.List.{range_with_len, flat_map}
use Rattle.heights.specs.Tally.{tally}
use Rattle.alteration.specs.Mending.{not_above}
use Rattle.alteration.proofs.Counting.{tally_part}
use Rattle.alteration.proofs.Mendings.{row_below}
use Rattle.alteration.proofs.Rows.{next_row, columns_of, all_rows}
use Rattle.alteration.proofs.Sums.{joined_tally_next}
use Rattle.alteration.proofs.count.count_rows.Goals as goal

pub loop-row-init : goal.loop-row-init
loop-row-init g c = record {
  row = c.args.part.top;
  low = omega arith;
  high = c.requires.rows.1;
  size = search rules;
  rest = search rules;
  few = omega arith;
  exact = grind arith;
}

pub offset_bounds-row-part : goal.offset_bounds-row-part
offset_bounds-row-part g c =
    let long : length c.in-Some.row.now ≡ c.args.part.width = c.in-Some.ensures.steps.1.1 ∙ c.loop-row.invariant.size in
    omega (arith, long, c.requires.lawful.0, c.requires.lawful.1)

pub overflow_add-count : goal.overflow_add-count
overflow_add-count g c =
    let p = c.args.part in
    let inv = c.loop-row.invariant in
    let step = c.in-Some.ensures.steps in
    let next = next_row p c.args.records.now inv.row c.in-Some.row.now c.next.new.self.rest.now c.requires.fitted inv.high c.requires.rows.0 (sym inv.rest ∙ step.1.0) (step.1.1 ∙ inv.size) in
    let most : c.loop-row.count + c.count_row-count.result < 2000000 = omega (arith, inv.few, c.count_row-count.ensures.few, c.requires.lawful.3, next.0) in
    search rules

pub loop-row-preserved : goal.loop-row-preserved
loop-row-preserved g c =
    let le = g.H.Height.not_higher in
    let p = c.args.part in
    let records = c.args.records.now in
    let inv = c.loop-row.invariant in
    let y = inv.row in
    let step = c.in-Some.ensures.steps in
    let next = next_row p records y c.in-Some.row.now c.next.new.self.rest.now c.requires.fitted inv.high c.requires.rows.0 (sym inv.rest ∙ step.1.0) (step.1.1 ∙ inv.size) in
    let test = not_above le records c.args.height in
    let row : c.count_row-count.result ≡ tally test (range_with_len (y * p.width + p.left) (p.right - p.left)) =
    c.count_row-count.ensures.exact
    ∙ ap (λ cells. tally (λ k. le k.height c.args.height) (take (p.right - p.left) (drop p.left cells))) next.1
    ∙ ap (tally (λ k. le k.height c.args.height)) (columns_of records (y * p.width) p.width p.left p.right c.requires.lawful.0 c.requires.lawful.1)
    ∙ tally_part le records c.args.height (y * p.width + p.left) (p.right - p.left) (omega (arith, row_below y p.bottom p.width next.0, c.requires.lawful.0, c.requires.lawful.1, c.requires.fitted)) in
    let more = joined_tally_next test (λ b. range_with_len (b * p.width + p.left) (p.right - p.left)) p.top (y - p.top) (y + 1 - p.top) y (omega (arith, inv.low)) (omega (arith, inv.low)) in
    record {
      row = y + 1;
      low = omega (arith, inv.low);
      high = omega (arith, next.0);
      size = step.0 ∙ inv.size;
      rest = next.2;
      few = omega (arith, inv.few, inv.low, c.count_row-count.ensures.few);
      exact = omega (arith, inv.exact, row, more);
    }

pub returns : goal.returns
returns g c =
    let p = c.args.part in
    let inv = c.loop-row.invariant in
    let test = not_above g.H.Height.not_higher c.args.records.now c.args.height in
    let end : inv.row ≡ p.bottom = all_rows p c.args.records.now inv.row c.requires.fitted inv.high (omega (arith, ap length inv.rest, c.in-None.ensures.steps.1.0, inv.size)) in
    inv.exact ∙ ap (λ n. tally test (flat_map (λ b. range_with_len (b * p.width + p.left) (p.right - p.left)) (range_with_len p.top (n - p.top)))) end
