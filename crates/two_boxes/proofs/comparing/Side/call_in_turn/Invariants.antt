use Rattle.std.proofs.Common.{map, take}
use Rattle.heights.specs.Meaning.{storage}
use Rattle.siting_box.specs.Boxes.{box_contents}
use Rattle.two_boxes.specs.Sides.{SameLoans}
use Rattle.two_boxes.specs.Comparing.{BothCalled}
use Rattle.two_boxes.proofs.comparing.Side.call_in_turn.Given as goal

abbrev pub invariant-loop-i : goal.invariant-loop-i
invariant-loop-i g l = record {
  ran : BothCalled (storage g.K.HeightKind.wide g.K.HeightKind.reads) (storage g.L.HeightKind.wide g.L.HeightKind.reads) g.K.Height.not_higher g.L.Height.not_higher (box_contents l.initial.self.siting.now) (box_contents l.self.siting.now) (box_contents l.initial.other.siting.now) (box_contents l.other.siting.now) (map g.C.Counter.view l.initial.self.counters.now) (map g.C.Counter.view l.self.counters.now) (map g.D.Counter.view l.initial.other.counters.now) (map g.D.Counter.view l.other.counters.now) (take l.i l.initial.self.calls.now) (take l.i l.initial.other.calls.now) l.initial.self.answers.now l.self.answers.now l.initial.other.answers.now l.other.answers.now l.apart;
  same : SameLoans l.initial.self l.self;
  other_same : SameLoans l.initial.other l.other;
}
