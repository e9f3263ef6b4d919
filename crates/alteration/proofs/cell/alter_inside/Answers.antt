use Rattle.std.proofs.Common.{◌≡◌, ◌+◌, ◌*◌, ◌<◌, length, get_or, set, refl, arith, rules}
use Rattle.std.proofs.lemmas.List.{length-set}
use Rattle.sweep.proofs.Cells.{index_inside, recorded}
use Rattle.alteration.specs.Mending.{not_above}
use Rattle.alteration.proofs.Outcomes.{mended_around, counted_around, altered}
use Rattle.alteration.proofs.cell.alter_inside.Goals as goal

pub offset_bounds-records-index : goal.offset_bounds-records-index
offset_bounds-records-index g c =
    let inside : c.args.at.y * c.args.plan.width + c.args.at.x < length c.args.records.now = index_inside c.args.plan.width c.args.plan.rows c.args.at.x c.args.at.y _ c.requires.whole c.requires.column c.requires.row in
    search rules

pub offset_bounds-records-index-2 : goal.offset_bounds-records-index-2
offset_bounds-records-index-2 g c =
    let inside : c.args.at.y * c.args.plan.width + c.args.at.x < length c.args.records.now = index_inside c.args.plan.width c.args.plan.rows c.args.at.x c.args.at.y _ c.requires.whole c.requires.column c.requires.row in
    search rules

pub offset_bounds-records-index-then-at-plan : goal.offset_bounds-records-index-then-at-plan
offset_bounds-records-index-then-at-plan g c =
    let inside : c.args.at.y * c.args.plan.width + c.args.at.x < length c.args.records.now = index_inside c.args.plan.width c.args.plan.rows c.args.at.x c.args.at.y _ c.requires.whole c.requires.column c.requires.row in
    search rules

pub returns-then-at-plan : goal.returns-then-at-plan
returns-then-at-plan g c =
    let le = g.H.Height.not_higher in
    let plan = c.args.plan in
    let at = c.args.at in
    let during = c.mend_rows.new.records in
    let index = at.y * plan.width + at.x in
    let written = set during index (record { height = c.args.height; count = (get_or during index c.index-records-index-2.result).count }) in
    let inside = index_inside plan.width plan.rows at.x at.y _ c.requires.whole c.requires.column c.requires.row in
    let long : length written ≡ length during = length-set during index _ in
    let done = recorded written index c.count_rows-count.result c.index-records-index-then-at-plan.result (omega (arith, inside, c.mend_rows.auto.records, long)) in
    altered le plan at c.args.height c.args.records.now during _ c.index-records-index.result c.index-records-index-2.result c.requires
    (mended_around plan at c.around-part.result c.min.result c.around-part.ensures c.min.ensures c.mend_rows.ensures)
    (record {
      heights = done.heights;
      counted = λ low d. counted_around (not_above le written c.args.height) plan at c.around-part.result _ c.count_rows-count.result c.around-part.ensures (done.count d) c.count_rows-count.ensures;
      kept = λ high d. absurd (omega (arith, c.if-at-plan.true));
      others = done.others;
    })

pub returns-else-at-plan : goal.returns-else-at-plan
returns-else-at-plan g c =
    let plan = c.args.plan in
    let at = c.args.at in
    altered g.H.Height.not_higher plan at c.args.height c.args.records.now c.mend_rows.new.records _ c.index-records-index.result c.index-records-index-2.result c.requires
    (mended_around plan at c.around-part.result c.min.result c.around-part.ensures c.min.ensures c.mend_rows.ensures)
    (record { heights = refl; counted = λ low d. absurd (omega (arith, c.if-at-plan.false)); kept = λ high d. refl; others = λ i d apart. refl })
