-- An accepted put or take below is one of the layer, and the corrected answer is right.
use Rattle.std.proofs.Common.{◌≡◌, ℕ, ◌+◌, ◌-◌, ◌<◌, min, Bool, true, false, cond, List, ◌∷◌, length, Some, None, Option, sym, refl, ap, ◌∙◌, subst, arith}
use Rattle.heights.specs.Order.{Preorder}
use Rattle.counters.specs.Held.{up_to}
use Rattle.counters.specs.Calls.{View, StepRule, unstated, shifting, waiting, fingers, put, take, rule_after, Steps, Did}
use Rattle.counters.proofs.Tallies.{tally_le_length, same_up_to}
use Rattle.flat_layer.specs.declared.remembered.Remembered.{Remembered}
use Rattle.flat_layer.specs.Memory.{after_put, after_take}
use Rattle.flat_layer.specs.Layers.{ask_finger, rule_over, view_over, AskedAt, Remembers}

-- ---- put and take leave the ask finger

finger_put : {X : Type 0} (le : X → X → Bool) (h : X) (places : ℕ) (last : Option (Remembered X)) (a : X) → ask_finger a (after_put le h places last) ≡ ask_finger a last
finger_put le h places None a = refl
finger_put le h places (Some m) a = refl

finger_take : {X : Type 0} (le : X → X → Bool) (h : X) (last : Option (Remembered X)) (a : X) → ask_finger a (after_take le h last) ≡ ask_finger a last
finger_take le h None a = refl
finger_take le h (Some m) a = refl

rule_put : {X : Type 0} (r : StepRule X) (h : X) (last new : Option (Remembered X)) → ((a : X) → ask_finger a new ≡ ask_finger a last) → rule_over new (rule_after r (put h)) ≡ rule_after (rule_over last r) (put h)
rule_put unstated h last new e = refl
rule_put shifting h last new e = refl
rule_put waiting h last new e = refl
rule_put (fingers p t a) h last new e = ap (λ x. fingers h t x) (e a)

rule_take : {X : Type 0} (r : StepRule X) (h : X) (last new : Option (Remembered X)) → ((a : X) → ask_finger a new ≡ ask_finger a last) → rule_over new (rule_after r (take h)) ≡ rule_after (rule_over last r) (take h)
rule_take unstated h last new e = refl
rule_take shifting h last new e = refl
rule_take waiting h last new e = refl
rule_take (fingers p t a) h last new e = ap (λ x. fingers p h x) (e a)

steps_put : {X : Type 0} (le : X → X → Bool) (r : StepRule X) (h : X) (last : Option (Remembered X)) (held : List X) (n : ℕ) → Steps le r held (put h) n → Steps le (rule_over last r) held (put h) n
steps_put le unstated h last held n s = tt
steps_put le shifting h last held n s = s
steps_put le waiting h last held n s = tt
steps_put le (fingers p t a) h last held n s = s

steps_take : {X : Type 0} (le : X → X → Bool) (r : StepRule X) (h : X) (last : Option (Remembered X)) (held : List X) (n : ℕ) → Steps le r held (take h) n → Steps le (rule_over last r) held (take h) n
steps_take le unstated h last held n s = tt
steps_take le shifting h last held n s = s
steps_take le waiting h last held n s = tt
steps_take le (fingers p t a) h last held n s = s

asked_put : {X : Type 0} (le : X → X → Bool) (r : StepRule X) (h m : X) → AskedAt le r m → AskedAt le (rule_after r (put h)) m
asked_put le unstated h m s = tt
asked_put le shifting h m s = tt
asked_put le waiting h m s = tt
asked_put le (fingers p t a) h m s = s

asked_take : {X : Type 0} (le : X → X → Bool) (r : StepRule X) (h m : X) → AskedAt le r m → AskedAt le (rule_after r (take h)) m
asked_take le unstated h m s = tt
asked_take le shifting h m s = tt
asked_take le waiting h m s = tt
asked_take le (fingers p t a) h m s = s

-- ---- what the layer shows

-- an accepted put below is one of the layer
pub did_put : {X : Type 0} (le : X → X → Bool) (v u : View X) (h : X) (steps places : ℕ) (last new : Option (Remembered X)) → new ≡ after_put le h places last
    → Did le v (put h) steps u → Did le (view_over last v) (put h) steps (view_over new u)
did_put le v u h steps places last new e d =
    record {
      held = d.held;
      places = d.places;
      mileage = d.mileage;
      rule = ap (rule_over new) d.rule ∙ rule_put v.rule h last new (λ a. ap (ask_finger a) e ∙ finger_put le h places last a);
      few = d.few;
      exact = steps_put le v.rule h last v.held steps d.exact;
    }

-- an accepted take below is one of the layer
pub did_take : {X : Type 0} (le : X → X → Bool) (v u : View X) (h : X) (steps : ℕ) (last new : Option (Remembered X)) → new ≡ after_take le h last
    → Did le v (take h) steps u → Did le (view_over last v) (take h) steps (view_over new u)
did_take le v u h steps last new e d =
    record {
      held = d.held;
      places = d.places;
      mileage = d.mileage;
      rule = ap (rule_over new) d.rule ∙ rule_take v.rule h last new (λ a. ap (ask_finger a) e ∙ finger_take le h last a);
      few = d.few;
      exact = steps_take le v.rule h last v.held steps d.exact;
    }

-- ---- what the layer remembers

one_more : (b : Bool) (n before after places : ℕ) → n ≡ before → after ≡ cond b 1 0 + before → before < places → cond b (min (n + 1) places) n ≡ after
one_more true n before after places e f l = omega arith
one_more false n before after places e f l = omega arith

one_less : (b : Bool) (n before after : ℕ) → n ≡ before → before ≡ cond b 1 0 + after → cond b (n - 1) n ≡ after
one_less true n before after e f = omega arith
one_less false n before after e f = omega arith

right_put : {X : Type 0} {le : X → X → Bool} → Preorder le → (v u : View X) (h : X) (steps places : ℕ) (last : Option (Remembered X))
    → Did le v (put h) steps u → length v.held < v.places → places ≡ u.places → Remembers le v last → Remembers le u (after_put le h places last)
right_put o v u h steps places None d room e k = tt
right_put {le = le} o v u h steps places (Some m) d room e k =
    let up = up_to le v.held m.height in
    let few : up < places = omega (arith, tally_le_length (λ x. le x m.height) v.held, d.places) in
    record {
      count = one_more (le h m.height) m.count up (up_to le u.held m.height) places k.count (same_up_to o u.held (h ∷ v.held) m.height d.held) few;
      mileage = omega (arith, d.mileage);
      finger = subst (λ r. AskedAt le r m.height) (sym d.rule) (asked_put le v.rule h m.height k.finger);
    }

-- the answer is right after an accepted put
pub remembers_put : {X : Type 0} {le : X → X → Bool} → Preorder le → (v u : View X) (h : X) (steps places : ℕ) (last new : Option (Remembered X)) → new ≡ after_put le h places last
    → Did le v (put h) steps u → length v.held < v.places → places ≡ u.places → Remembers le v last → Remembers le u new
remembers_put {le = le} o v u h steps places last new e d room f k = subst (Remembers le u) (sym e) (right_put o v u h steps places last d room f k)

right_take : {X : Type 0} {le : X → X → Bool} → Preorder le → (v u : View X) (h : X) (steps : ℕ) (last : Option (Remembered X))
    → Did le v (take h) steps u → Remembers le v last → Remembers le u (after_take le h last)
right_take o v u h steps None d k = tt
right_take {le = le} o v u h steps (Some m) d k =
    record {
      count = one_less (le h m.height) m.count (up_to le v.held m.height) (up_to le u.held m.height) k.count (same_up_to o v.held (h ∷ u.held) m.height d.held);
      mileage = omega (arith, d.mileage);
      finger = subst (λ r. AskedAt le r m.height) (sym d.rule) (asked_take le v.rule h m.height k.finger);
    }

-- the answer is right after an accepted take
pub remembers_take : {X : Type 0} {le : X → X → Bool} → Preorder le → (v u : View X) (h : X) (steps : ℕ) (last new : Option (Remembered X)) → new ≡ after_take le h last
    → Did le v (take h) steps u → Remembers le v last → Remembers le u new
remembers_take {le = le} o v u h steps last new e d k = subst (Remembers le u) (sym e) (right_take o v u h steps last d k)
