use Rattle.std.proofs.Common.{◌+◌, take, set, ap, ◌∙◌}
use Rattle.shift_array.proofs.Moves.{inserted}
use Rattle.shift_array.proofs.shifting.insert_at.Goals as goal

pub returns : goal.returns
returns g c =
    ap (λ l. take (c.args.used + 1) (set l c.args.at c.args.entry)) c.copy_within.ensures.after
    ∙ inserted c.args.entries.now c.args.at c.args.used c.args.entry c.requires.within c.requires.room
