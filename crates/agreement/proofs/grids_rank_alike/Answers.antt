use Rattle.agreement.proofs.Ranks.{counts_agree, nearest_agree, totals_agree}
use Rattle.agreement.proofs.grids_rank_alike.Goals as goal

pub returns : goal.returns
returns g c =
    record {
      counts = counts_agree g.H.Height.not_higher g.G.Height.not_higher;
      nearest = nearest_agree g.H.Height.not_higher g.G.Height.not_higher;
      totals = totals_agree g.H.Height.not_higher g.G.Height.not_higher;
    }
