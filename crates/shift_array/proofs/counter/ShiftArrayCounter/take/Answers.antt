use Rattle.std.proofs.Common.{Some, arith}
use Rattle.shift_array.specs.Changes.{Removed}
use Rattle.shift_array.proofs.Packed.{tidy_take, did_take, some_held, done_removal}
use Rattle.shift_array.proofs.counter.ShiftArrayCounter.take.Goals as goal

pub overflow_sub-self : goal.overflow_sub-self
overflow_sub-self g c =
    let m = c.args.self.now in
    let le = g.H.Height.not_higher in
    let done : Removed le m.entries.now c.remove.new.entries m.used c.args.height (Some c.in_ok-change.change)
    = done_removal le m.entries.now _ m.used c.args.height c.remove.result c.ok_or.result c.in_ok-change.change c.ok_or.ensures.ok_part c.in_ok-change.was c.remove.ensures in
    some_held le m.entries.now _ m.used _ m.held m.mileage _ c.args.height m.tidy done.1

pub invariant_of-self-2 : goal.invariant_of-self-2
invariant_of-self-2 g c =
    let m = c.args.self.now in
    let le = g.H.Height.not_higher in
    let done : Removed le m.entries.now c.remove.new.entries m.used c.args.height (Some c.in_ok-change.change)
    = done_removal le m.entries.now _ m.used c.args.height c.remove.result c.ok_or.result c.in_ok-change.change c.ok_or.ensures.ok_part c.in_ok-change.was c.remove.ensures in
    record {
      tidy = tidy_take le m.entries.now _ m.used _ m.held m.mileage _ c.in_ok-change.change.steps c.args.height m.tidy
          (omega arith) c.mileage_after-self.ensures done.0 done.1;
    }

pub returns-clause-done : goal.returns-clause-done
returns-clause-done g c =
    let m = c.args.self.now in
    let le = g.H.Height.not_higher in
    let done : Removed le m.entries.now c.remove.new.entries m.used c.args.height (Some c.in_ok-change.change)
    = done_removal le m.entries.now _ m.used c.args.height c.remove.result c.ok_or.result c.in_ok-change.change c.ok_or.ensures.ok_part c.in_ok-change.was c.remove.ensures in
    did_take g.met.H.Height.ordered m.entries.now _ m.used _ m.held m.mileage _ c.in_ok-change.change.steps c.args.height m.tidy
    (omega arith) c.mileage_after-self.ensures done.1
