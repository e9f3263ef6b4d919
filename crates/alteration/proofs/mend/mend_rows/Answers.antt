use Rattle.std.proofs.Common.{◌+◌, ◌*◌, ◌≤◌, length, arith, rules}
use Rattle.alteration.proofs.Mendings.{mended_part, row_below, row_more, rows_end}
use Rattle.alteration.proofs.mend.mend_rows.Goals as goal

pub offset_bounds-records-row : goal.offset_bounds-records-row
offset_bounds-records-row g c =
    let p = c.args.part in
    let fits : c.loop-y.y * p.width + p.left ≤ length c.loop-y.records = omega (arith, row_below c.loop-y.y p.bottom p.width c.loop-y-test.true, c.requires.lawful.0, c.requires.lawful.1, c.requires.fitted, c.loop-y.auto.records) in
    search rules

pub loop-y-preserved : goal.loop-y-preserved
loop-y-preserved g c =
    let p = c.args.part in
    let row = c.loop-y.y * p.width in
    record {
      below = omega arith;
      mended = row_more p c.loop-y.y c.requires.lawful.1 (omega arith) c.loop-y.invariant.mended
          (mended_part g.H.Height.not_higher c.args.old c.args.new c.loop-y.records c.mend_row.new.cells (row + p.left) (row + p.right) (omega (arith, c.requires.lawful.0))
          (omega (arith, row_below c.loop-y.y p.bottom p.width c.loop-y-test.true, c.requires.lawful.1, c.requires.fitted, c.loop-y.auto.records)) c.mend_row.ensures);
    }

pub returns : goal.returns
returns g c = rows_end c.args.part c.loop-y.y c.loop-y.invariant.below (omega arith) c.loop-y.invariant.mended
