use Rattle.std.proofs.Common.{get_or, set, ap, ◌∙◌, arith}
use Rattle.std.proofs.lemmas.List.Edits.{map_over_more}
use Rattle.alteration.specs.Mending.{mended}
use Rattle.alteration.proofs.Mendings.{mended_is}
use Rattle.alteration.proofs.mend.mend_row.Goals as goal

pub loop-cell-preserved : goal.loop-cell-preserved
loop-cell-preserved g c =
    let le = g.H.Height.not_higher in
    let cells = c.loop-cell.cell-items in
    let i = c.loop-cell.cell-index in
    ap (set cells i) (mended_is le c.args.old c.args.new c.cell-item.result (get_or cells i c.cell-item.result) _ c.cell-item.is c.mended_count-cell.ensures)
    ∙ map_over_more (mended le c.args.old c.args.new) c.args.cells.now cells i c.cell-item.result (omega arith) c.loop-cell.invariant c.cell-item.is
