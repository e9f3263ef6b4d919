use Rattle.std.proofs.Common.{◌-◌, take, ap, ◌∙◌}
use Rattle.shift_array.proofs.Moves.{removed}
use Rattle.shift_array.proofs.shifting.remove_at.Goals as goal

pub returns : goal.returns
returns g c =
    ap (take (c.args.used - 1)) c.copy_within.ensures.after
    ∙ removed c.args.entries.now c.args.at c.args.used c.requires.within c.requires.inside
