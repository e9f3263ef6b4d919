use Rattle.std.proofs.Common.{arith}
use Rattle.shift_array.proofs.Packed.{room_left, tidy_put, did_put}
use Rattle.shift_array.proofs.counter.ShiftArrayCounter.put.Goals as goal

pub add-change-requires-clause-room : goal.add-change-requires-clause-room
add-change-requires-clause-room g c =
    let m = c.args.self.now in
    room_left m.entries.now m.used m.held m.mileage m.tidy (omega arith)

pub invariant_of-self : goal.invariant_of-self
invariant_of-self g c =
    let m = c.args.self.now in
    record {
      tidy = tidy_put g.H.Height.not_higher m.entries.now _ m.used _ m.held m.mileage _ c.add-change.result.steps c.args.height m.tidy
          (omega arith) (omega arith) c.mileage_after-self.ensures c.add-change.ensures.within c.add-change.ensures.grown;
    }

pub returns-clause-done : goal.returns-clause-done
returns-clause-done g c =
    let m = c.args.self.now in
    did_put g.H.Height.not_higher m.entries.now _ m.used _ m.held m.mileage _ c.add-change.result.steps c.args.height m.tidy
    (omega arith) (omega arith) c.mileage_after-self.ensures c.add-change.ensures.grown
