use Rattle.std.proofs.lemmas.Nat.{mod_below}
use Rattle.two_boxes.proofs.Turns.{took_turn}
use Rattle.two_boxes.proofs.comparing.Side.take_turn.Goals as goal

pub returns-clause-turn : goal.returns-clause-turn
returns-clause-turn g c = took_turn _ _ g.C.Counter.view c.args.i _ _ _ _ _ _ _ _ c.index-counters-turn.result c.requires.called (mod_below c.args.i _ c.requires.counted) c.call_box-answer.ensures.step
