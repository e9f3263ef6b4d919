use Rattle.std.proofs.Common.{◌≡◌, ◌+◌, subst, refl, arith}
use Rattle.counters.specs.Calls.{still}
use Rattle.sweep.specs.Inner.{terrain}
use Rattle.sweep.specs.Walk.{band_rows}
use Rattle.sweep.proofs.Cells.{walked_cell, walked_height}
use Rattle.sweep.proofs.Runs.{Changed, changed_more, ready_next}
use Rattle.sweep.proofs.column.change_column.Goals as goal

pub loop-j-init : goal.loop-j-init
loop-j-init g c = record { sound = c.requires.sound; ran = still }

pub change_one-requires-clause-ready : goal.change_one-requires-clause-ready
change_one-requires-clause-ready g c =
    let b = c.args.strip.now.band in
    let t = terrain b c.args.strip.now.records.now in
    let one = walked_height t b.radius b.y c.args.x c.loop-j.j c.walked_row-y.result c.height_at-height.result c.walked_row-y.ensures.exact c.height_at-height.ensures in
    ready_next c.args.change (walked_cell t b.radius b.y c.args.x) 0 c.loop-j.j (band_rows b.rows b.radius b.y) c.loop-j.j _ (omega arith) (omega arith) one c.loop-j.invariant.ran c.requires.ready

pub loop-j-preserved : goal.loop-j-preserved
loop-j-preserved g c =
    let b = c.args.strip.now.band in
    let t = terrain b c.args.strip.now.records.now in
    let one = walked_height t b.radius b.y c.args.x c.loop-j.j c.walked_row-y.result c.height_at-height.result c.walked_row-y.ensures.exact c.height_at-height.ensures in
    record {
      sound = c.change_one.ensures.sound;
      ran = changed_more c.args.change (walked_cell t b.radius b.y c.args.x) 0 c.loop-j.j (c.loop-j.j + 1) c.loop-j.j _ (omega arith) refl one c.loop-j.invariant.ran c.change_one.ensures.ran;
    }

pub returns-clause-ran : goal.returns-clause-ran
returns-clause-ran g c =
    let b = c.args.strip.now.band in
    let t = terrain b c.args.strip.now.records.now in
    let e : c.loop-j.j ≡ band_rows b.rows b.radius b.y = omega arith in
    subst (λ n. Changed g.H.Height.not_higher c.args.change (walked_cell t b.radius b.y c.args.x) 0 n (g.C.Counter.view c.args.counter.now) (g.C.Counter.view c.loop-j.counter)) e c.loop-j.invariant.ran
