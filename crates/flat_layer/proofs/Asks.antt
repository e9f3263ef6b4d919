-- An ask is told rightly, from memory or from below.
use Rattle.std.proofs.Common.{◌≡◌, ℕ, Bool, true, List, Some, None, Option, sym, refl, ap, ◌∙◌, subst, arith}
use Rattle.std.proofs.lemmas.Option.{cond_some}
use Rattle.heights.specs.Order.{Preorder, level}
use Rattle.counters.specs.declared.counter.Asked.{Asked}
use Rattle.counters.specs.declared.counter.Counter.{Ghosts}
use Rattle.counters.specs.Held.{up_to}
use Rattle.counters.specs.Calls.{View, StepRule, unstated, shifting, waiting, fingers, ask, rule_after, Steps, Did}
use Rattle.counters.proofs.Preorders.{level_self, level_transitive}
use Rattle.counters.proofs.Tallies.{same_refl, same_up_to}
use Rattle.flat_layer.specs.declared.remembered.Remembered.{Remembered}
use Rattle.flat_layer.specs.declared.layer.FlatLayer.{FlatLayer}
use Rattle.flat_layer.specs.Memory.{recalled, Flat}
use Rattle.flat_layer.specs.Layers.{rule_over, view_over, AskedAt, Recalls, Remembers, layer_view, LayerSound}
use Rattle.flat_layer.proofs.Levels.{up_to_level, finger_stays, finger_from_level}

-- a height with its answer, as a layer remembers it
abbrev noted : {X : Type 0} → X → ℕ → Option (Remembered X)
noted h n = Some (record { height = h; count = n })

-- wherever the layer's ask finger stood, an ask brings it to its height
rule_ask : {X : Type 0} (r : StepRule X) (h : X) (n : ℕ) (last : Option (Remembered X)) → rule_over (noted h n) (rule_after r (ask h)) ≡ rule_after (rule_over last r) (ask h)
rule_ask unstated h n last = refl
rule_ask shifting h n last = refl
rule_ask waiting h n last = refl
rule_ask (fingers p t a) h n last = refl

-- ---- from memory

rule_recall : {X : Type 0} (r : StepRule X) (h : X) (n : ℕ) (last : Option (Remembered X)) → rule_over (noted h n) r ≡ rule_after (rule_over last r) (ask h)
rule_recall unstated h n last = refl
rule_recall shifting h n last = refl
rule_recall waiting h n last = refl
rule_recall (fingers p t a) h n last = refl

steps_recall : {X : Type 0} {le : X → X → Bool} → Preorder le → (r : StepRule X) (held : List X) (h : X) (m : Remembered X) → level le m.height h ≡ true
    → Steps le (rule_over (Some m) r) held (ask h) 0
steps_recall o unstated held h m l = tt
steps_recall o shifting held h m l = refl
steps_recall o waiting held h m l = tt
steps_recall o (fingers p t a) held h m l = sym (finger_stays o held m.height h l)

asked_level : {X : Type 0} {le : X → X → Bool} → Preorder le → (r : StepRule X) (m h : X) → level le m h ≡ true → AskedAt le r m → AskedAt le r h
asked_level o unstated m h l s = tt
asked_level o shifting m h l s = tt
asked_level o waiting m h l s = tt
asked_level o (fingers p t a) m h l s = level_transitive o a m h s l

-- what an ask at h told from memory with the answer n does
pub record Told {X : Type 0} (le : X → X → Bool) (v : View X) (h : X) (n : ℕ) (last : Option (Remembered X)) : Type 0 where
  pub done : Did le (view_over last v) (ask h) 0 (view_over (noted h n) v)
  pub count : n ≡ up_to le v.held h
  pub sound : Remembers le v (noted h n)

told : {X : Type 0} {le : X → X → Bool} → Preorder le → (v : View X) (h : X) (n : ℕ) (m : Remembered X) → n ≡ m.count → level le m.height h ≡ true → Recalls le v m → Told le v h n (Some m)
told {le = le} o v h n m e l k =
    let right : n ≡ up_to le v.held h = e ∙ k.count ∙ up_to_level o v.held m.height h l in
    record {
      done = record {
        held = same_refl le v.held;
        places = refl;
        mileage = omega (arith, k.mileage);
        rule = rule_recall v.rule h n (Some m);
        few = omega arith;
        exact = steps_recall o v.rule v.held h m l;
      };
      count = right;
      sound = record { count = right; mileage = k.mileage; finger = asked_level o v.rule m.height h l k.finger };
    }

-- a recalled answer is right
pub recall_tells : {X : Type 0} {le : X → X → Bool} → Preorder le → (v : View X) (h : X) (n : ℕ) (last : Option (Remembered X)) → Some n ≡ recalled le h last → Remembers le v last → Told le v h n last
recall_tells o v h n None e k = absurd (let z : ◌≡◌ {A = ℕ} 0 1 = cc in omega arith)
recall_tells {le = le} o v h n (Some m) e k =
    let f = cond_some (level le m.height h) m.count n (sym e) in
    told o v h n m (sym f.1) f.0 k

-- ---- from below

steps_ask : {X : Type 0} {le : X → X → Bool} → Preorder le → (r : StepRule X) (held : List X) (h : X) (n : ℕ) (m : Remembered X) → AskedAt le r m.height
    → Steps le r held (ask h) n → Steps le (rule_over (Some m) r) held (ask h) n
steps_ask o unstated held h n m k s = tt
steps_ask o shifting held h n m k s = s
steps_ask o waiting held h n m k s = tt
steps_ask o (fingers p t a) held h n m k s = s ∙ finger_from_level o held a m.height h k

steps_first : {X : Type 0} (le : X → X → Bool) (r : StepRule X) (held : List X) (h : X) (n : ℕ) → Steps le r held (ask h) n → Steps le (rule_over None r) held (ask h) n
steps_first le unstated held h n s = tt
steps_first le shifting held h n s = s
steps_first le waiting held h n s = tt
steps_first le (fingers p t a) held h n s = s

steps_below : {X : Type 0} {le : X → X → Bool} → Preorder le → (v : View X) (h : X) (n : ℕ) (last : Option (Remembered X)) → Remembers le v last
    → Steps le v.rule v.held (ask h) n → Steps le (rule_over last v.rule) v.held (ask h) n
steps_below {le = le} o v h n None k s = steps_first le v.rule v.held h n s
steps_below o v h n (Some m) k s = steps_ask o v.rule v.held h n m k.finger s

asked_here : {X : Type 0} {le : X → X → Bool} → Preorder le → (r : StepRule X) (h : X) → AskedAt le (rule_after r (ask h)) h
asked_here o unstated h = tt
asked_here o shifting h = tt
asked_here o waiting h = tt
asked_here o (fingers p t a) h = level_self o h

-- an ask below is one of the layer
pub did_ask : {X : Type 0} {le : X → X → Bool} → Preorder le → (v u : View X) (h : X) (n steps : ℕ) (last : Option (Remembered X))
    → Did le v (ask h) steps u → Remembers le v last → Did le (view_over last v) (ask h) steps (view_over (noted h n) u)
did_ask o v u h n steps last d k =
    record {
      held = d.held;
      places = d.places;
      mileage = d.mileage;
      rule = ap (rule_over (noted h n)) d.rule ∙ rule_ask v.rule h n last;
      few = d.few;
      exact = steps_below o v h steps last k d.exact;
    }

-- an answer from below is rightly remembered
pub remembers_ask : {X : Type 0} {le : X → X → Bool} → Preorder le → (v u : View X) (h : X) (n steps : ℕ)
    → Did le v (ask h) steps u → n ≡ up_to le v.held h → Remembers le u (noted h n)
remembers_ask {le = le} o v u h n steps d e =
    record {
      count = e ∙ sym (same_up_to o u.held v.held h d.held);
      mileage = omega (arith, d.mileage);
      finger = subst (λ r. AskedAt le r h) (sym d.rule) (asked_here o v.rule h);
    }

-- ---- either way

-- what an ask of a layer at h does that leaves a counter below and tells an answer
pub record Asking {S X : Type 0} (le : X → X → Bool) (below : Ghosts S X) (layer : FlatLayer S X) (h : X) (counter : S) (asked : Asked) : Type 0 where
  pub done : LayerSound le below layer → Did le (layer_view below layer) (ask h) asked.steps (view_over (noted h asked.count) (below.view counter))
  pub count : LayerSound le below layer → asked.count ≡ up_to le (below.view layer.counter).held h
  pub sound : LayerSound le below layer → below.sound counter × Remembers le (below.view counter) (noted h asked.count)
  pub flat : Flat (recalled le h layer.last) layer.counter asked counter

-- the same with equals in their places
moved : {S X : Type 0} (le : X → X → Bool) (below : Ghosts S X) (layer : FlatLayer S X) (h : X) (s t : FlatLayer S X) (a b : Asked) → s ≡ t → a ≡ b
    → Asking le below layer h t.counter b → Asking le below layer h s.counter a
moved le below layer h s t a b e f k =
    let P : FlatLayer _ _ → Type 0 = λ x. Asking le below layer h x.counter a in
    subst P (sym e) (subst (Asking le below layer h t.counter) (sym f) k)

-- an answer is recalled: it is told with 0 steps, and the counter below stays as it is
pub from_memory : {S X : Type 0} {le : X → X → Bool} → Preorder le → (below : Ghosts S X) (layer : FlatLayer S X) (h : X) (n : ℕ) → Some n ≡ recalled le h layer.last
    → (s : FlatLayer S X) (a : Asked) → s ≡ layer → a ≡ record { count = n; steps = 0 } → Asking le below layer h s.counter a
from_memory {le = le} o below layer h n e s a f g =
    let tells = recall_tells o (below.view layer.counter) h n layer.last e in
    moved le below layer h s layer a (record { count = n; steps = 0 }) f g
    (record {
      done = λ k. (tells k.1).done;
      count = λ k. (tells k.1).count;
      sound = λ k. (k.0, (tells k.1).sound);
      flat = subst (λ m. Flat m layer.counter (record { count = n; steps = 0 }) layer.counter) e (refl, refl, refl);
    })

-- no answer is recalled: the counter below is asked
pub from_below : {S X : Type 0} {le : X → X → Bool} → Preorder le → (below : Ghosts S X) (layer : FlatLayer S X) (h : X) → None ≡ recalled le h layer.last
    → (t : FlatLayer S X) (b : Asked)
    → (below.sound layer.counter → Did le (below.view layer.counter) (ask h) b.steps (below.view t.counter))
    → (below.sound layer.counter → b.count ≡ up_to le (below.view layer.counter).held h)
    → (below.sound layer.counter → below.sound t.counter)
    → (s : FlatLayer S X) (a : Asked) → s ≡ t → a ≡ b → Asking le below layer h s.counter a
from_below {le = le} o below layer h e t b done count sound s a f g =
    let v = below.view layer.counter in
    let u = below.view t.counter in
    moved le below layer h s t a b f g
    (record {
      done = λ k. did_ask o v u h b.count b.steps layer.last (done k.0) k.1;
      count = λ k. count k.0;
      sound = λ k. (sound k.0, remembers_ask o v u h b.count b.steps (done k.0) (count k.0));
      flat = subst (λ m. Flat m layer.counter b t.counter) e tt;
    })
