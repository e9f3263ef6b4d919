use Rattle.std.proofs.Common.{◌≡◌, Some, None, rules, refl}
use Rattle.flat_layer.specs.Memory.{recalled}
use Rattle.flat_layer.proofs.Asks.{Asking, from_memory, from_below}
use Rattle.flat_layer.proofs.counter.FlatLayerCounter.ask.Goals as goal
use Rattle.flat_layer.proofs.counter.FlatLayerCounter.ask.Goals.{in-Some, in-None}

pub returns : goal.returns
returns g c =
    let o = g.met.C.Kind.Height.ordered in
    let le = g.C.Kind.Height.not_higher in
    let below = g.C.Counter in
    let layer = c.args.self.now in
    let h = c.args.height in
    let s = c.match-filter.self in
    let a = c.match-filter.asked in
    let way : Asking le below layer h s.counter a
    = elim c.match-filter.branch [
      | in-Some w ↦
          let e : Some w.in-Some.asked.count ≡ recalled le h layer.last = search rules in
          from_memory o below layer h w.in-Some.asked.count e s a w.self-is w.asked-is
      | in-None w ↦
          let e : None ≡ recalled le h layer.last = search rules in
          let told = w.ask-asked.ensures in
          from_below o below layer h e _ _ told.done told.count told.sound s a w.self-is w.asked-is
    ] in
    record { done = way.done; count = way.count; sound = way.sound; flat = way.flat; remembers = refl }
