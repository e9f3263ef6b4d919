use Rattle.std.proofs.Common.{◌<◌, take, ap, arith}
use Rattle.std.proofs.lemmas.List.{length-take-le, get_or-take}
use Rattle.shift_array.proofs.Weights.{number, number_le}
use Rattle.shift_array.proofs.Growth.{put_level, put_entry}
use Rattle.shift_array.proofs.change.add.Goals as goal

pub overflow_add-entries : goal.overflow_add-entries
overflow_add-entries g c =
    let es = c.args.entries.now in
    let used = c.args.used in
    let at = c.in-Ok.at in
    let x = c.index-entries-at.result in
    let lt : at < used = omega (arith, length-take-le used es (omega arith), c.in-Ok.ensures.inside) in
    omega (arith, c.requires.few, number_le (take used es) at x c.in-Ok.ensures.inside, ap number (get_or-take used es at x lt))

pub returns-in-Ok-clause-grown : goal.returns-in-Ok-clause-grown
returns-in-Ok-clause-grown g c =
    let es = c.args.entries.now in
    let used = c.args.used in
    put_level g.H.Height.not_higher es used c.in-Ok.at c.index-entries-at-in-Ok.result c.index-entries-at.result c.args.height
    (omega (arith, length-take-le used es (omega arith), c.in-Ok.ensures.inside)) c.in-Ok.ensures

pub returns-in-Err-clause-grown : goal.returns-in-Err-clause-grown
returns-in-Err-clause-grown g c =
    put_entry g.met.H.Height.ordered c.args.entries.now _ c.args.used c.in-Err.at c.args.height (omega arith) c.in-Err.ensures c.insert_at.ensures
