use Rattle.sweep.proofs.Runs.{one_put, one_take}
use Rattle.sweep.proofs.column.change_one.Goals as goal

pub returns-in-Put-clause-ran : goal.returns-in-Put-clause-ran
returns-in-Put-clause-ran g c = one_put c.args.height c.args.change c.in-Put.is c.requires.ready c.put.result (c.put.ensures.done c.requires.sound)

pub returns-in-Take-clause-ran : goal.returns-in-Take-clause-ran
returns-in-Take-clause-ran g c = one_take g.met.H.Height.ordered c.args.height c.args.change c.in-Take.is c.requires.ready c.take.result (c.take.ensures.done c.requires.sound)
