-- What a change of the list does to what a finger list shows.
use Rattle.std.proofs.Common.{◌≡◌, ℕ, suc, ◌+◌, ◌-◌, ◌<◌, ◌≤◌, min, Bool, true, false, cond, eqb, List, [], ◌∷◌, length, get_or, Some, None, Option, option_map, MatchOption, IsSomeAnd, sym, refl, ap, subst, arith}
use Rattle.std.specs.Option.{option_map_or}
use Rattle.std.proofs.lemmas.List.Sums.{sum_by-cons}
use Rattle.std.proofs.lemmas.Bool.{cond_both}
use Rattle.heights.specs.Order.{Preorder}
use Rattle.counters.specs.Held.{up_to, level_with}
use Rattle.counters.specs.Calls.{View, fingers, begun, Did, Steps, put, take, ask, rule_after, places_of, mileage_after}
use Rattle.counters.proofs.Preorders.{blind_up_to}
use Rattle.counters.proofs.Tallies.{same_refl, held_level, tally_le_length}
use Rattle.finger_list.specs.declared.change.Spot.{Spot}
use Rattle.finger_list.specs.declared.entry.Entry.{Entry}
use Rattle.finger_list.specs.declared.finger.Finger.{Finger}
use Rattle.finger_list.specs.declared.finger.Fingers.{Fingers}
use Rattle.finger_list.specs.declared.walk.Way.{Way}
use Rattle.finger_list.specs.Entries.{in_use, number_at, held_in, Positive}
use Rattle.finger_list.specs.Linking.{Linked, InOrder, StandsAt}
use Rattle.finger_list.specs.Hands.{LinksIn, count_of, AllStand, Counted, followed_link, left_link, after_put, after_take, after_ask, counted_up}
use Rattle.finger_list.specs.Walking.{part, many, weighs, Arrived}
use Rattle.finger_list.specs.Changes.{Grown, Shrunk}
use Rattle.finger_list.specs.Views.{rule_of, shown, Inside, Back, Forth, Tidy, Fit}
use Rattle.finger_list.proofs.Weights.{length_used, at_used}
use Rattle.finger_list.proofs.Distances.{length_held}

-- the links of a tidy memory, in one fact
pub linked_of : {X : Type 0} (es : List (Entry X)) (used : ℕ) → Inside es used → Back es used → Forth es used → Linked es used
linked_of es used a b f = (
  a.0,
  a.1,
  λ i d lo lt.
      let m : i < min (used + 1) (length es) = omega arith in
      (a.2 i d m, a.3 i d m, a.4 i d m, b i d m, f i d m),
)

-- the links of a tidy memory, fact by fact
pub inside_of : {X : Type 0} (es : List (Entry X)) (used : ℕ) → Linked es used → Inside es used
inside_of es used l = (
  l.0,
  l.1,
  (λ i d m. (l.2 i d (omega arith) (omega arith)).0),
  (λ i d m. (l.2 i d (omega arith) (omega arith)).1),
  λ i d m. (l.2 i d (omega arith) (omega arith)).2,
)

-- the link up of a link down, from the links in one fact
pub back_of : {X : Type 0} (es : List (Entry X)) (used : ℕ) → Linked es used → Back es used
back_of es used l i d m = (l.2 i d (omega arith) (omega arith)).3

-- the link down of a link up, from the links in one fact
pub forth_of : {X : Type 0} (es : List (Entry X)) (used : ℕ) → Linked es used → Forth es used
forth_of es used l i d m = (l.2 i d (omega arith) (omega arith)).4

-- the links of a tidy memory
pub tidy_linked : {X : Type 0} (es : List (Entry X)) (used held : ℕ) (f : Option (Fingers X)) → Tidy es used held f → Linked es used
tidy_linked es used held f t = linked_of es used t.0 t.1 t.2

-- the numbers of a tidy memory
pub tidy_positive : {X : Type 0} (es : List (Entry X)) (used held : ℕ) (f : Option (Fingers X)) → Tidy es used held f → Positive es used
tidy_positive es used held f t i d pos lo =
    let e : i - 1 + 1 ≡ i = omega arith in
    subst (λ m. 0 < number_at es d m) e (t.3.0 (i - 1) d (omega arith))

-- a tidy memory from its parts
pub tidy_of : {X : Type 0} (es : List (Entry X)) (used held : ℕ) (f : Option (Fingers X)) → Linked es used → Positive es used
    → held ≡ length (held_in es used) → held ≤ places_of (length es) → LinksIn f used → count_of f ≤ held
    → Tidy es used held f
tidy_of es used held f l pos is few ins small =
    (inside_of es used l, back_of es used l, forth_of es used l, ((λ i d lt. pos (i + 1) d (omega arith) (omega arith)), is, few, ins, small))

-- each entry in use holds a height
entries_le : {X : Type 0} (us : List (Entry X)) → ((i : ℕ) (d : Entry X) → i < length us → 0 < (get_or us i d).number) → length us ≤ weighs (λ _. true) many us
entries_le [] pos = omega arith
entries_le (e ∷ es) pos =
    omega (arith, sum_by-cons (part (λ _. true) many) e es, pos 0 e (omega arith), entries_le es (λ i d l. pos (suc i) d (omega arith)))

-- no more entries are in use than heights are held
pub used_le_held : {X : Type 0} (es : List (Entry X)) (used held : ℕ) (f : Option (Fingers X)) → Tidy es used held f → used ≤ held
used_le_held {X} es used held f t =
    let n = length_used es used t.0.0 in
    let pos = tidy_positive es used held f t in
    omega (
      arith,
      n,
      length_held es used,
      t.3.1,
      entries_le (in_use es used)
          (λ i d l. subst (λ (x : Entry X). 0 < x.number) (sym (at_used es used i d (omega arith))) (pos (1 + i) d (omega arith) (omega arith))),
    )

-- where a walk arrives
pub arrived_at : {X : Type 0} (le : X → X → Bool) (es : List (Entry X)) (used : ℕ) (h : X) (r : Way) (from : Option (Finger X))
    → Arrived le es used h r from → StandsAt le es used h r.link
arrived_at le es used h r None a = a.0
arrived_at le es used h r (Some f) a = a.at

-- the heights that are not higher are no more than those held
up_to_le : {X : Type 0} (le : X → X → Bool) (held : List X) (h : X) → up_to le held h ≤ length held
up_to_le le held h = tally_le_length (λ x. le x h) held

-- a finger that followed leads to an entry in use
followed_in : {X : Type 0} (le : X → X → Bool) (f : Finger X) (from to n : ℕ) (h : X) → f.link ≤ n → to ≤ n → followed_link le f from to h ≤ n
followed_in le f from to n h a b =
    cond_both (eqb f.link from) (cond (le h f.height) to f.link) f.link (λ m. m ≤ n)
    (λ _. cond_both (le h f.height) to f.link (λ m. m ≤ n) (λ _. b) (λ _. a)) (λ _. a)

-- after a put the fingers lead to entries in use
links_put : {X : Type 0} (le : X → X → Bool) (f : Option (Fingers X)) (from to used n : ℕ) (h : X) → used ≤ n → to ≤ n
    → LinksIn f used → LinksIn (option_map (λ g. after_put le g from to h) f) n
links_put le None from to used n h more low ins = (omega arith, omega arith, omega arith)
links_put le (Some f) from to used n h more low ins =
    (low, followed_in le f.take from to n h (omega arith) low, followed_in le f.ask from to n h (omega arith) low)

-- after a put at most one more is counted
count_put : {X : Type 0} (le : X → X → Bool) (f : Option (Fingers X)) (from to k : ℕ) (h : X) → count_of f ≤ k → count_of (option_map (λ g. after_put le g from to h) f) ≤ k + 1
count_put le None from to k h c = omega arith
count_put le (Some f) from to k h c =
    cond_both (le h f.ask.height) (f.count + 1) f.count (λ m. m ≤ k + 1) (λ _. omega arith) (λ _. omega arith)

-- after a put the memory is tidy
pub tidy_put : {X : Type 0} (le : X → X → Bool) (es gs : List (Entry X)) (used held from : ℕ) (f : Option (Fingers X)) (h : X) (spot : Spot)
    → Tidy es used held f → held < places_of (length es) → Grown le es gs used from h spot
    → Tidy gs spot.used (held + 1) (option_map (λ g. after_put le g from spot.link h) f)
tidy_put le es gs used held from f h spot t room w =
    tidy_of gs spot.used (held + 1) (option_map (λ g. after_put le g from spot.link h) f)
    w.linked
    (w.positive (tidy_positive es used held f t))
    (omega (arith, w.all, t.3.1))
    (subst (λ k. held + 1 ≤ places_of k) (sym w.size) (omega arith))
    (links_put le f from spot.link used spot.used h w.more w.inside t.3.3)
    (count_put le f from spot.link held h t.3.4)

-- the count after a put
count_more : (b : Bool) (c u v : ℕ) → c ≡ u → v ≡ cond b 1 0 + u → cond b (c + 1) c ≡ v
count_more true c u v e w = omega arith
count_more false c u v e w = omega arith

-- after a put each finger's height stands at its link
stands_put : {X : Type 0} {le : X → X → Bool} (es gs : List (Entry X)) (used from : ℕ) (f : Fingers X) (h : X) (spot : Spot)
    → LinksIn (Some f) used → StandsAt le es used h from → Grown le es gs used from h spot → Fit le es used (Some f)
    → AllStand le gs spot.used (Some (after_put le f from spot.link h))
stands_put es gs used from f h spot ins at w fit =
    record {
      put = w.here fit.order at;
      take = w.fingers fit.order at f.take ins.1 fit.stands.take;
      ask = w.fingers fit.order at f.ask ins.2 fit.stands.ask;
    }

-- after a put the fingers stand where they should
pub fit_put : {X : Type 0} {le : X → X → Bool} (o : Preorder le) (es gs : List (Entry X)) (used from : ℕ) (f : Option (Fingers X)) (h : X) (spot : Spot)
    → LinksIn f used → StandsAt le es used h from → Grown le es gs used from h spot → Fit le es used f
    → Fit le gs spot.used (option_map (λ g. after_put le g from spot.link h) f)
fit_put o es gs used from None h spot ins at w fit =
    record { order = w.order fit.order at; stands = record { put = tt; take = tt; ask = tt }; counted = tt }
fit_put {le = le} o es gs used from (Some f) h spot ins at w fit =
    let p = f.ask.height in
    record {
      order = w.order fit.order at;
      stands = stands_put es gs used from f h spot ins at w fit;
      counted = count_more (le h p) f.count (up_to le (held_in es used) p) (up_to le (held_in gs spot.used) p) fit.counted
          ((w.held fit.order at).tallies (λ x. le x p) (blind_up_to o p));
    }

-- after a put the put finger stands at its height
rule_put : {X : Type 0} (le : X → X → Bool) (f : Option (Fingers X)) (from to : ℕ) (h : X) → rule_of (option_map (λ g. after_put le g from to h) f) ≡ rule_after (rule_of f) (put h)
rule_put le None from to h = refl
rule_put le (Some f) from to h = refl

-- the steps of a put are those of its finger
exact_put : {X : Type 0} (le : X → X → Bool) (es : List (Entry X)) (used : ℕ) (f : Option (Fingers X)) (h : X) (way : Way)
    → Arrived le es used h way (option_map (λ g. g.put) f) → Steps le (rule_of f) (held_in es used) (put h) way.steps
exact_put le es used None h way a = tt
exact_put le es used (Some f) h way a = a.steps

-- what a put does
pub did_put : {X : Type 0} (le : X → X → Bool) (es gs : List (Entry X)) (used held m : ℕ) (f : Option (Fingers X)) (h : X) (way : Way) (spot : Spot)
    → Tidy es used held f → held < places_of (length es) → way.steps ≤ used → Grown le es gs used way.link h spot → Fit le es used f
    → Arrived le es used h way (option_map (λ g. g.put) f)
    → (length (held_in es used) < places_of (length es))
    × Did le (shown es used m f) (put h) way.steps (shown gs spot.used (mileage_after m way.steps) (option_map (λ g. after_put le g way.link spot.link h) f))
did_put le es gs used held m f h way spot t room low w fit a = (
  omega (arith, t.3.1),
  record {
    held = w.held fit.order (arrived_at le es used h way (option_map (λ g. g.put) f) a);
    places = ap places_of w.size;
    mileage = refl;
    rule = rule_put le f way.link spot.link h;
    few = omega (arith, used_le_held es used held f t);
    exact = exact_put le es used f h way a;
  },
)

-- after a take the fingers lead to entries in use
links_take : {X : Type 0} (le : X → X → Bool) (f : Option (Fingers X)) (at : ℕ) (spot : Spot) (used held : ℕ) (h : X) → at ≤ used
    → ((i : ℕ) → i ≤ used → left_link at spot used i ≤ spot.used)
    → LinksIn f used → LinksIn (option_map (λ g. after_take le g at spot used h held) f) spot.used
links_take le None at spot used held h low to ins = (omega arith, omega arith, omega arith)
links_take le (Some f) at spot used held h low to ins = (to f.put.link ins.0, to at low, to f.ask.link ins.2)

-- after a take no more is counted than held
count_take : {X : Type 0} (le : X → X → Bool) (f : Option (Fingers X)) (at : ℕ) (spot : Spot) (used held : ℕ) (h : X) → count_of (option_map (λ g. after_take le g at spot used h held) f) ≤ held
count_take le None at spot used held h = omega arith
count_take le (Some f) at spot used held h = omega arith

-- after a take the memory is tidy
pub tidy_take : {X : Type 0} (le : X → X → Bool) (es gs : List (Entry X)) (used held at : ℕ) (f : Option (Fingers X)) (h : X) (spot : Spot)
    → Tidy es used held f → at ≤ used → Shrunk le es gs used at h spot
    → Tidy gs spot.used (held - 1) (option_map (λ g. after_take le g at spot used h (held - 1)) f)
tidy_take le es gs used held at f h spot t low w =
    tidy_of gs spot.used (held - 1) (option_map (λ g. after_take le g at spot used h (held - 1)) f)
    w.linked
    w.positive
    (omega (arith, w.all, t.3.1))
    (subst (λ k. held - 1 ≤ places_of k) (sym w.size) (omega (arith, t.3.2)))
    (links_take le f at spot used (held - 1) h low w.inside t.3.3)
    (count_take le f at spot used (held - 1) h)

-- the count after a take
count_less : (b : Bool) (c u v k : ℕ) → c ≡ u → u ≡ cond b 1 0 + v → v ≤ k → min (cond b (c - 1) c) k ≡ v
count_less true c u v k e w l = omega arith
count_less false c u v k e w l = omega arith

-- after a take each finger's height stands at its link
stands_take : {X : Type 0} {le : X → X → Bool} (es gs : List (Entry X)) (used held at : ℕ) (f : Fingers X) (h : X) (spot : Spot)
    → LinksIn (Some f) used → at ≤ used → StandsAt le es used h at → Shrunk le es gs used at h spot → Fit le es used (Some f)
    → AllStand le gs spot.used (Some (after_take le f at spot used h held))
stands_take es gs used held at f h spot ins low st w fit =
    record {
      put = w.fingers fit.order f.put.height f.put.link ins.0 fit.stands.put;
      take = w.fingers fit.order h at low st;
      ask = w.fingers fit.order f.ask.height f.ask.link ins.2 fit.stands.ask;
    }

-- after a take the fingers stand where they should
pub fit_take : {X : Type 0} {le : X → X → Bool} (o : Preorder le) (es gs : List (Entry X)) (used held at : ℕ) (f : Option (Fingers X)) (h : X) (spot : Spot)
    → Tidy es used held f → at ≤ used → StandsAt le es used h at → Shrunk le es gs used at h spot → Fit le es used f
    → Fit le gs spot.used (option_map (λ g. after_take le g at spot used h (held - 1)) f)
fit_take o es gs used held at None h spot t low st w fit =
    record { order = w.order fit.order; stands = record { put = tt; take = tt; ask = tt }; counted = tt }
fit_take {le = le} o es gs used held at (Some f) h spot t low st w fit =
    let p = f.ask.height in
    record {
      order = w.order fit.order;
      stands = stands_take es gs used (held - 1) at f h spot t.3.3 low st w fit;
      counted = count_less (le h p) f.count (up_to le (held_in es used) p) (up_to le (held_in gs spot.used) p) (held - 1) fit.counted
          ((w.held fit.order st).tallies (λ x. le x p) (blind_up_to o p))
          (omega (arith, up_to_le le (held_in gs spot.used) p, w.all, t.3.1));
    }

-- after a take the take finger stands at its height
rule_take : {X : Type 0} (le : X → X → Bool) (f : Option (Fingers X)) (at : ℕ) (spot : Spot) (used held : ℕ) (h : X)
    → rule_of (option_map (λ g. after_take le g at spot used h held) f) ≡ rule_after (rule_of f) (take h)
rule_take le None at spot used held h = refl
rule_take le (Some f) at spot used held h = refl

-- the steps of a take are those of its finger
exact_take : {X : Type 0} (le : X → X → Bool) (es : List (Entry X)) (used : ℕ) (f : Option (Fingers X)) (h : X) (way : Way)
    → Arrived le es used h way (option_map (λ g. g.take) f) → Steps le (rule_of f) (held_in es used) (take h) way.steps
exact_take le es used None h way a = tt
exact_take le es used (Some f) h way a = a.steps

-- what a take does
pub did_take : {X : Type 0} {le : X → X → Bool} (o : Preorder le) (es gs : List (Entry X)) (used held m : ℕ) (f : Option (Fingers X)) (h : X) (way : Way) (spot : Spot)
    → Tidy es used held f → way.steps ≤ used → Shrunk le es gs used way.link h spot → Fit le es used f
    → Arrived le es used h way (option_map (λ g. g.take) f)
    → (0 < level_with le (held_in es used) h)
    × Did le (shown es used m f) (take h) way.steps (shown gs spot.used (mileage_after m way.steps) (option_map (λ g. after_take le g way.link spot used h (held - 1)) f))
did_take {le = le} o es gs used held m f h way spot t low w fit a =
    let s = w.held fit.order (arrived_at le es used h way (option_map (λ g. g.take) f) a) in (
      held_level o (held_in es used) (held_in gs spot.used) h s,
      record {
        held = s;
        places = ap places_of w.size;
        mileage = refl;
        rule = rule_take le f way.link spot used (held - 1) h;
        few = omega (arith, used_le_held es used held f t, t.3.2);
        exact = exact_take le es used f h way a;
      },
    )

-- after an ask the fingers lead to entries in use
links_ask : {X : Type 0} (f : Option (Fingers X)) (link used count : ℕ) (h : X) → link ≤ used
    → LinksIn f used → LinksIn (option_map (λ g. after_ask g link h count) f) used
links_ask None link used count h low ins = ins
links_ask (Some f) link used count h low ins = (ins.0, ins.1, low)

-- after an ask no more is counted than held
count_ask : {X : Type 0} (f : Option (Fingers X)) (link count held : ℕ) (h : X) → count ≤ held → count_of (option_map (λ g. after_ask g link h count) f) ≤ held
count_ask None link count held h low = omega arith
count_ask (Some f) link count held h low = low

-- after an ask the memory is tidy
pub tidy_ask : {X : Type 0} (es : List (Entry X)) (used held link count : ℕ) (f : Option (Fingers X)) (h : X)
    → Tidy es used held f → link ≤ used → count ≤ held → Tidy es used held (option_map (λ g. after_ask g link h count) f)
tidy_ask es used held link count f h t low few =
    (t.0, t.1, t.2, (t.3.0, t.3.1, t.3.2, links_ask f link used count h low t.3.3, count_ask f link count held h few))

-- the count after a finger has gone up or down
moved_up_to : (b : Bool) (c passed u v k : ℕ) → c ≡ u → (b ≡ true → v ≡ u + passed) → (b ≡ false → u ≡ v + passed) → v ≤ k
    → min (cond b (c + passed) (c - passed)) k ≡ v
moved_up_to true c passed u v k e up down l = omega (arith, up refl)
moved_up_to false c passed u v k e up down l = omega (arith, down refl)

-- the count is that of the heights that are not higher
pub counted_right : {X : Type 0} (le : X → X → Bool) (es : List (Entry X)) (used held : ℕ) (f : Option (Fingers X)) (h : X) (way : Way)
    → held ≡ length (held_in es used) → Counted le (held_in es used) f → Arrived le es used h way (option_map (λ g. g.ask) f)
    → min (option_map_or (λ g. counted_up le g way.passed h) f way.passed) held ≡ up_to le (held_in es used) h
counted_right le es used held None h way is c a = omega (arith, a.1, up_to_le le (held_in es used) h)
counted_right le es used held (Some f) h way is c a =
    let p = f.ask.height in
    moved_up_to (le p h) f.count way.passed (up_to le (held_in es used) p) (up_to le (held_in es used) h) held c a.up a.down
    (omega (arith, up_to_le le (held_in es used) h))

-- after an ask each finger's height stands at its link
stands_ask : {X : Type 0} {le : X → X → Bool} (es : List (Entry X)) (used link count : ℕ) (f : Fingers X) (h : X)
    → StandsAt le es used h link → Fit le es used (Some f)
    → AllStand le es used (Some (after_ask f link h count))
stands_ask es used link count f h st fit = record { put = fit.stands.put; take = fit.stands.take; ask = st }

-- after an ask the fingers stand where they should
pub fit_ask : {X : Type 0} {le : X → X → Bool} (es : List (Entry X)) (used link count : ℕ) (f : Option (Fingers X)) (h : X)
    → StandsAt le es used h link → count ≡ up_to le (held_in es used) h → Fit le es used f → Fit le es used (option_map (λ g. after_ask g link h count) f)
fit_ask es used link count None h st is fit = record { order = fit.order; stands = record { put = tt; take = tt; ask = tt }; counted = tt }
fit_ask es used link count (Some f) h st is fit =
    record { order = fit.order; stands = stands_ask es used link count f h st fit; counted = is }

-- after an ask the ask finger stands at its height
rule_ask : {X : Type 0} (f : Option (Fingers X)) (link count : ℕ) (h : X) → rule_of (option_map (λ g. after_ask g link h count) f) ≡ rule_after (rule_of f) (ask h)
rule_ask None link count h = refl
rule_ask (Some f) link count h = refl

-- the steps of an ask are those of its finger
exact_ask : {X : Type 0} (le : X → X → Bool) (es : List (Entry X)) (used : ℕ) (f : Option (Fingers X)) (h : X) (way : Way)
    → Arrived le es used h way (option_map (λ g. g.ask) f) → Steps le (rule_of f) (held_in es used) (ask h) way.steps
exact_ask le es used None h way a = tt
exact_ask le es used (Some f) h way a = a.steps

-- what an ask does
pub did_ask : {X : Type 0} (le : X → X → Bool) (es : List (Entry X)) (used held m count : ℕ) (f : Option (Fingers X)) (h : X) (way : Way)
    → Tidy es used held f → way.steps ≤ used → Arrived le es used h way (option_map (λ g. g.ask) f)
    → Did le (shown es used m f) (ask h) way.steps (shown es used (mileage_after m way.steps) (option_map (λ g. after_ask g way.link h count) f))
did_ask le es used held m count f h way t low a =
    record {
      held = same_refl le (held_in es used);
      places = refl;
      mileage = refl;
      rule = rule_ask f way.link count h;
      few = omega (arith, used_le_held es used held f t, t.3.2);
      exact = exact_ask le es used f h way a;
    }

-- a memory of which no entry is in use is tidy
pub tidy_none : {X : Type 0} (es : List (Entry X)) (f : Option (Fingers X)) → Linked es 0 → LinksIn f 0 → count_of f ≤ 0 → Tidy es 0 0 f
tidy_none es f l ins small = tidy_of es 0 0 f l (λ i d p lo. absurd (omega arith)) refl (omega arith) ins small

-- no entries are in order
none_in_order : {X : Type 0} (le : X → X → Bool) (es : List (Entry X)) → InOrder le es 0
none_in_order le es d = record { up = λ i l j p lj. absurd (omega arith); apart = λ i j pi li pj lj q₁ q₂. absurd (omega arith) }

-- the fingers where begin lets them stand
abbrev pub started : {X : Type 0} → X → X → Fingers X
started first asked =
    record { put = record { height = first; link = 0 }; take = record { height = first; link = 0 }; ask = record { height = asked; link = 0 }; count = 0 }

-- the fingers of begin lead to the end
pub links_begun : {X : Type 0} (first asked : X) → LinksIn (Some (started first asked)) 0
links_begun first asked = (omega arith, omega arith, omega arith)

-- with no entry in use each height stands at the end
stands_none : {X : Type 0} (le : X → X → Bool) (es : List (Entry X)) (p : X) → StandsAt le es 0 p 0
stands_none le es p d j pos lj = absurd (omega arith)

-- with no entry in use the fingers of begin stand at the end
stands_begun : {X : Type 0} (le : X → X → Bool) (es : List (Entry X)) (first asked : X) → AllStand le es 0 (Some (started first asked))
stands_begun le es first asked = record { put = stands_none le es first; take = stands_none le es first; ask = stands_none le es asked }

-- with no entry in use the fingers stand at any heights
pub fit_begun : {X : Type 0} (le : X → X → Bool) (es : List (Entry X)) (first asked : X) → Fit le es 0 (Some (started first asked))
fit_begun le es first asked = record { order = none_in_order le es; stands = stands_begun le es first asked; counted = refl }

-- what a list shows that has begun
pub shown_begun : {X : Type 0} (es gs : List (Entry X)) (used m : ℕ) (f : Option (Fingers X)) (first asked : X) → length gs ≡ length es
    → shown gs 0 0 (Some (started first asked)) ≡ begun (shown es used m f) first asked
shown_begun {X} es gs used m None first asked e =
    let V : ℕ → View X = λ n. record { held = []; places = places_of n; mileage = 0; rule = fingers first first asked } in ap V e
shown_begun {X} es gs used m (Some f) first asked e =
    let V : ℕ → View X = λ n. record { held = []; places = places_of n; mileage = 0; rule = fingers first first asked } in ap V e

-- what `map` returns, where the closure does what a function says
pub mapped : {A B : Type 0} {P : A → B → Type 0} (k : A → B) (o : Option A) (r : Option B) → MatchOption o (r ≡ None) (λ x. IsSomeAnd r (P x))
    → ((x : A) (y : B) → P x y → y ≡ k x) → r ≡ option_map k o
mapped k None r e same = e
mapped k (Some x) None e same = absurd e
mapped k (Some x) (Some y) e same = ap Some (same x y e)

-- what `map_or` returns, where the closure does what a function says
pub mapped_or : {A B : Type 0} {P : A → Type 0} (k : A → B) (o : Option A) (d r : B) → MatchOption o (r ≡ d) P
    → ((x : A) → P x → r ≡ k x) → r ≡ option_map_or k o d
mapped_or k None d r e same = e
mapped_or k (Some x) d r e same = same x e
