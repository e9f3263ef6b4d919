use Rattle.std.proofs.Common.{◌≡◌, rules}
use Rattle.console.specs.Refusals.{answer_of}
use Rattle.console.proofs.Written.{served_as}
use Rattle.console.proofs.session.serve.Goals as goal

pub returns-clause-served : goal.returns-clause-served
returns-clause-served g c =
    let told : c.unwrap_or_else.result ≡ answer_of c.carry_out.result = search rules in
    rw told (served_as _ _ _ c.in-Some.command _ _ _ _ _ c.in-Some.ensures c.carry_out.ensures.carried)
