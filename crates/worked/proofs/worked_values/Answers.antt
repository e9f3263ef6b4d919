use Rattle.worked.proofs.Worked.{worked_values}
use Rattle.worked.proofs.worked_values.Goals as goal

pub returns : goal.returns
returns c = worked_values
