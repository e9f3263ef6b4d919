use Rattle.std.proofs.Common.{◌≡◌, ◌-◌, option_map, rules}
use Rattle.finger_list.specs.Hands.{after_take}
use Rattle.finger_list.specs.Changes.{Shrunk}
use Rattle.finger_list.proofs.Packed.{tidy_positive, arrived_at, tidy_take, fit_take, did_take, mapped}
use Rattle.finger_list.proofs.counter.FingerListCounter.take.Goals as goal

pub remove-requires-clause-positive : goal.remove-requires-clause-positive
remove-requires-clause-positive g c = let m = c.args.self.now in tidy_positive m.entries.now m.used m.held m.fingers m.tidy

pub invariant_of-self-2 : goal.invariant_of-self-2
invariant_of-self-2 g c =
    let m = c.args.self.now in
    let es = m.entries.now in
    let gs = c.remove.new.entries in
    let le = g.H.Height.not_higher in
    let h = c.args.height in
    let at = c.way_to-way.result.link in
    let spot = c.in_ok-spot.spot in
    let w : Shrunk le es gs m.used at h spot = rw c.in_ok-spot.ensures.ok_part at c.remove.ensures in
    let turned : c.map-self.result ≡ option_map (λ f. after_take le f at spot m.used h (m.held - 1)) m.fingers
    = mapped _ m.fingers c.map-self.result c.map-self.ensures.cases (λ x y p. search rules) in
    record { tidy = rw turned (tidy_take le es gs m.used m.held at m.fingers h spot m.tidy c.way_to-way.ensures.inside w) }

pub returns : goal.returns
returns g c =
    let m = c.args.self.now in
    let es = m.entries.now in
    let gs = c.remove.new.entries in
    let le = g.H.Height.not_higher in
    let o = g.met.H.Height.ordered in
    let h = c.args.height in
    let way = c.way_to-way.result in
    let spot = c.in_ok-spot.spot in
    let low = c.way_to-way.ensures.inside in
    let w : Shrunk le es gs m.used way.link h spot = rw c.in_ok-spot.ensures.ok_part at c.remove.ensures in
    let t = option_map (λ f. f.take) m.fingers in
    let from : c.map-from.result ≡ t = mapped _ m.fingers c.map-from.result c.map-from.ensures.cases (λ x y p. search rules) in
    let turned : c.map-self.result ≡ option_map (λ f. after_take le f way.link spot m.used h (m.held - 1)) m.fingers
    = mapped _ m.fingers c.map-self.result c.map-self.ensures.cases (λ x y p. search rules) in
    record {
      done = λ fit.
          let a = rw from at (c.way_to-way.ensures.walked fit (rw from fit.stands.take)) in
          rw (c.mileage_after-self.ensures, turned) (did_take o es gs m.used m.held m.mileage m.fingers h way spot m.tidy c.way_to-way.ensures.few w fit a);
      sound = λ fit.
          let a = rw from at (c.way_to-way.ensures.walked fit (rw from fit.stands.take)) in
          rw turned (fit_take o es gs m.used m.held way.link m.fingers h spot m.tidy low (arrived_at le es m.used h way t a) w fit);
    }
