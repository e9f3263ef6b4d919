use Rattle.std.proofs.Common.{◌≡◌, min, option_map, ap, ◌∙◌, rules}
use Rattle.std.specs.Option.{option_map_or}
use Rattle.counters.specs.Held.{up_to}
use Rattle.finger_list.specs.Entries.{held_in}
use Rattle.finger_list.specs.Hands.{after_ask, counted_up}
use Rattle.finger_list.specs.Views.{Fit}
use Rattle.finger_list.proofs.Packed.{arrived_at, counted_right, fit_ask, did_ask, mapped, mapped_or}
use Rattle.finger_list.proofs.counter.FingerListCounter.ask.Goals as goal

pub returns : goal.returns
returns g c =
    let m = c.args.self.now in
    let es = m.entries.now in
    let le = g.H.Height.not_higher in
    let h = c.args.height in
    let way = c.way_to-way.result in
    let count = c.min-count.result in
    let t = option_map (λ f. f.ask) m.fingers in
    let from : c.map-from.result ≡ t = mapped _ m.fingers c.map-from.result c.map-from.ensures.cases (λ x y p. search rules) in
    let turned : c.map-self.result ≡ option_map (λ f. after_ask f way.link h count) m.fingers
    = mapped _ m.fingers c.map-self.result c.map-self.ensures.cases (λ x y p. search rules) in
    let counted : c.map_or-counted.result ≡ option_map_or (λ f. counted_up le f way.passed h) m.fingers way.passed
    = mapped_or _ m.fingers way.passed c.map_or-counted.result c.map_or-counted.ensures (λ x p. search rules) in
    let right : Fit le es m.used m.fingers → count ≡ up_to le (held_in es m.used) h
    = λ fit.
    let a = rw from at (c.way_to-way.ensures.walked fit (rw from fit.stands.ask)) in
    c.min-count.ensures ∙ ap (λ n. min n m.held) counted ∙ counted_right le es m.used m.held m.fingers h way m.tidy.3.1 fit.counted a in
    record {
      done = λ fit.
          let a = rw from at (c.way_to-way.ensures.walked fit (rw from fit.stands.ask)) in
          rw (c.mileage_after-self.ensures, turned) (did_ask le es m.used m.held m.mileage count m.fingers h way m.tidy c.way_to-way.ensures.few a);
      count = right;
      sound = λ fit.
          let a = rw from at (c.way_to-way.ensures.walked fit (rw from fit.stands.ask)) in
          rw turned (fit_ask es m.used way.link count m.fingers h (arrived_at le es m.used h way t a) (right fit) fit);
    }
