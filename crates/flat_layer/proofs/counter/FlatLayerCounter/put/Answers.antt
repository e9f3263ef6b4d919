use Rattle.std.proofs.Common.{◌≡◌, rules}
use Rattle.flat_layer.specs.Memory.{after_put}
use Rattle.flat_layer.proofs.Corrections.{remembers_put}
use Rattle.flat_layer.proofs.counter.FlatLayerCounter.put.Goals as goal

pub returns-clause-sound : goal.returns-clause-sound
returns-clause-sound g c =
    let last = c.args.self.now.last in
    let new = c.map-self.result in
    let v = g.C.Counter.view c.args.self.now.counter in
    let u = g.C.Counter.view c.put.new.self in
    let h = c.args.height in
    let places = c.places-places.result in
    let below = c.in_ok-steps.ensures in
    let e : new ≡ after_put g.C.Kind.Height.not_higher h places last = search rules in
    λ s.
    let d = below.done s.0 in
    (below.sound s.0, remembers_put g.met.C.Kind.Height.ordered v u h c.in_ok-steps.steps places last new e d.1 d.0 c.places-places.ensures.told s.1)
