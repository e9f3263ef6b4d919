use Rattle.agreement.proofs.Made.{alike_opened, alike_altered}
use Rattle.agreement.proofs.grids_stay_alike.Goals as goal

pub returns : goal.returns
returns g c =
    record {
      opened = alike_opened g.H.Height.not_higher g.G.Height.not_higher;
      changed = alike_altered g.H.Height.not_higher g.G.Height.not_higher;
    }
