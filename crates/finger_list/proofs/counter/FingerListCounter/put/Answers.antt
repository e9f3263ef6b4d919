use Rattle.std.proofs.Common.{◌≡◌, option_map, arith, rules}
use Rattle.finger_list.specs.Hands.{after_put}
use Rattle.finger_list.proofs.Packed.{used_le_held, arrived_at, tidy_put, fit_put, did_put, mapped}
use Rattle.finger_list.proofs.counter.FingerListCounter.put.Goals as goal

pub add-spot-requires-clause-room : goal.add-spot-requires-clause-room
add-spot-requires-clause-room g c = let m = c.args.self.now in omega (arith, used_le_held m.entries.now m.used m.held m.fingers m.tidy)

pub add-spot-requires-clause-few : goal.add-spot-requires-clause-few
add-spot-requires-clause-few g c = let m = c.args.self.now in omega (arith, used_le_held m.entries.now m.used m.held m.fingers m.tidy)

pub invariant_of-self : goal.invariant_of-self
invariant_of-self g c =
    let m = c.args.self.now in
    let le = g.H.Height.not_higher in
    let h = c.args.height in
    let way = c.way_to-way.result in
    let spot = c.add-spot.result in
    let turned : c.map-self.result ≡ option_map (λ f. after_put le f way.link spot.link h) m.fingers
    = mapped _ m.fingers c.map-self.result c.map-self.ensures.cases (λ x y p. search rules) in
    record { tidy = rw turned (tidy_put le m.entries.now c.add-spot.new.entries m.used m.held way.link m.fingers h spot m.tidy (omega arith) c.add-spot.ensures) }

pub returns : goal.returns
returns g c =
    let m = c.args.self.now in
    let es = m.entries.now in
    let gs = c.add-spot.new.entries in
    let le = g.H.Height.not_higher in
    let h = c.args.height in
    let way = c.way_to-way.result in
    let spot = c.add-spot.result in
    let w = c.add-spot.ensures in
    let p = option_map (λ f. f.put) m.fingers in
    let from : c.map-from.result ≡ p = mapped _ m.fingers c.map-from.result c.map-from.ensures.cases (λ x y p. search rules) in
    let turned : c.map-self.result ≡ option_map (λ f. after_put le f way.link spot.link h) m.fingers
    = mapped _ m.fingers c.map-self.result c.map-self.ensures.cases (λ x y p. search rules) in
    record {
      done = λ fit.
          let a = rw from at (c.way_to-way.ensures.walked fit (rw from fit.stands.put)) in
          rw (c.mileage_after-self.ensures, turned) (did_put le es gs m.used m.held m.mileage m.fingers h way spot m.tidy (omega arith) c.way_to-way.ensures.few w fit a);
      sound = λ fit.
          let a = rw from at (c.way_to-way.ensures.walked fit (rw from fit.stands.put)) in
          rw turned (fit_put g.met.H.Height.ordered es gs m.used way.link m.fingers h spot m.tidy.3.3 (arrived_at le es m.used h way p a) w fit);
    }
