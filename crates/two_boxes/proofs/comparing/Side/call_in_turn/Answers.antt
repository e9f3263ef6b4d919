use Rattle.std.proofs.Common.{arith}
use Rattle.two_boxes.proofs.Loans.{loans_begun, loans_more}
use Rattle.two_boxes.proofs.Comparisons.{called_none, called_more}
use Rattle.two_boxes.proofs.comparing.Side.call_in_turn.Goals as goal

pub loop-i-init : goal.loop-i-init
loop-i-init g c = record { ran = called_none; same = loans_begun; other_same = loans_begun }

pub loop-i-preserved : goal.loop-i-preserved
loop-i-preserved g c =
    let now = c.loop-i.invariant in
    let left = c.take_turn-answer.ensures in
    let right = c.take_turn-other_answer.ensures in
    record {
      ran = called_more (omega arith) (omega arith) (omega arith) (omega arith) now.ran now.same.calls now.other_same.calls left.turn right.turn c.looks_like-alike.ensures c.first_apart-apart.ensures;
      same = loans_more now.same left.same;
      other_same = loans_more now.other_same right.same;
    }
