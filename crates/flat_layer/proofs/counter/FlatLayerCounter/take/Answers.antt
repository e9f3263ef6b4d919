use Rattle.std.proofs.Common.{◌≡◌, rules}
use Rattle.flat_layer.specs.Memory.{after_take}
use Rattle.flat_layer.proofs.Corrections.{did_take, remembers_take}
use Rattle.flat_layer.proofs.counter.FlatLayerCounter.take.Goals as goal

pub returns : goal.returns
returns g c =
    let le = g.C.Kind.Height.not_higher in
    let last = c.args.self.now.last in
    let new = c.map-self.result in
    let v = g.C.Counter.view c.args.self.now.counter in
    let u = g.C.Counter.view c.take.new.self in
    let h = c.args.height in
    let steps = c.in_ok-steps.steps in
    let below = c.in_ok-steps.ensures in
    let e : new ≡ after_take le h last = search rules in
    record {
      done = λ s. let d = below.done s.0 in (d.0, did_take le v u h steps last new e d.1);
      sound = λ s. (below.sound s.0, remembers_take g.met.C.Kind.Height.ordered v u h steps last new e (below.done s.0).1 s.1);
    }
