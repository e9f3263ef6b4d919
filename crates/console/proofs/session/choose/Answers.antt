use Rattle.console.proofs.Written.{none_chosen}
use Rattle.console.proofs.session.choose.Goals as goal

pub returns-in_err-kind : goal.returns-in_err-kind
returns-in_err-kind c = rw c.from_residual.ensures (none_chosen _ c.in_err-kind.ensures)
