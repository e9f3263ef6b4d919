-- Neighbours in the order, one step from the one to the other, and where a walk stops.
use Rattle.std.proofs.Common.{◌≡◌, ℕ, ◌+◌, ◌-◌, ◌<◌, ◌≤◌, Bool, true, false, not, List, length, get_or, sym, ap, ◌∙◌, subst, arith}
use Rattle.std.proofs.lemmas.List.{get_or_default, get_or_read}
use Rattle.std.proofs.lemmas.Bool.{both_ways, not-true, true_from_ne_false, false_from_ne_true}
use Rattle.finger_list.specs.declared.entry.Entry.{Entry}
use Rattle.finger_list.specs.Entries.{in_use, height_at, prev_at}
use Rattle.finger_list.specs.Linking.{Linked, not_past, onwards, Adjacent, InOrder, StandsAt}
use Rattle.finger_list.specs.Walking.{NotOver, NotUnder, one, many, weighs, Went}
use Rattle.heights.specs.Order.{Preorder}
use Rattle.counters.proofs.Preorders.{equal_tests, reflexive, other_way}
use Rattle.finger_list.proofs.Weights.{weighs_one_more, weighs_full, length_used, at_used, weighs_none, by_link}
use Rattle.finger_list.proofs.Chains.{np_end, np_at, ow_end, ow_at}

-- from one neighbour to the next above, the entry k is all that comes in
pub step_at : {X : Type 0} {le : X → X → Bool} (o : Preorder le)
    (es : List (Entry X)) (used : ℕ) → InOrder le es used → (d : Entry X) (i k : ℕ) → (k ≡ 0 → ⊥) → k ≤ used → Adjacent le es used d i k
    → (not_past le (height_at es d) i (height_at es d k) ≡ false) × (not_past le (height_at es d) k (height_at es d k) ≡ true)
    × ((j : ℕ) → 0 < j → j ≤ used → (j ≡ k → ⊥) → not_past le (height_at es d) k (height_at es d j) ≡ not_past le (height_at es d) i (height_at es d j))
step_at {le = le} o es used s d i k pos low cut = (
  not-true _ (sym (cut k (omega arith) low) ∙ ow_at le (height_at es d) k _ pos ∙ reflexive o _),
  np_at le (height_at es d) k _ pos ∙ reflexive o _,
  λ j h₁ h₂ ne.
      let hj = height_at es d j in
      let hk = height_at es d k in
      equal_tests _ _
      (λ q. true_from_ne_false (not_past le (height_at es d) i hj) (λ off.
      let on : le hk hj ≡ true = sym (ow_at le (height_at es d) k hj pos) ∙ cut j h₁ h₂ ∙ ap not off in
      ne ((s d).apart j k h₁ h₂ (omega arith) low (sym (np_at le (height_at es d) k hj pos) ∙ q) on)))
      (λ q. np_at le (height_at es d) k hj pos ∙ other_way o hk hj (sym (ow_at le (height_at es d) k hj pos) ∙ cut j h₁ h₂ ∙ ap not q)),
)

-- one step up weighs the entry stepped on
pub step_weighs : {X : Type 0} {le : X → X → Bool} (o : Preorder le)
    (es : List (Entry X)) (used : ℕ) → used ≤ length es - 1 → InOrder le es used → (i k : ℕ) → (k ≡ 0 → ⊥) → k ≤ used
    → ((d : Entry X) → Adjacent le es used d i k)
    → (w : Entry X → ℕ) (d : Entry X)
    → weighs (not_past le (height_at es d) k) w (in_use es used) ≡ weighs (not_past le (height_at es d) i) w (in_use es used) + w (get_or es k d)
step_weighs {X} {le} o es used room s i k pos low cut w d =
    let us = in_use es used in
    let n = length_used es used room in
    let here : get_or us (k - 1) d ≡ get_or es k d = at_used es used (k - 1) d (omega arith) ∙ ap (λ m. get_or es m d) (omega arith) in
    let st = step_at o es used s d i k pos low (cut d) in
    let t = not_past le (height_at es d) i in
    let u = not_past le (height_at es d) k in
    weighs_one_more t u w us (k - 1) d (omega arith)
    (ap (λ (e : Entry X). t e.height) here ∙ st.0)
    (ap (λ (e : Entry X). u e.height) here ∙ st.1)
    (λ m d' l ne.
    let e : get_or us m d' ≡ get_or es (1 + m) d = at_used es used m d' (omega arith) ∙ get_or_default es (1 + m) d' d (omega arith) in
    ap (λ (e : Entry X). u e.height) e ∙ st.2 (1 + m) (omega arith) (omega arith) (λ q. ne (omega arith)) ∙ sym (ap (λ (e : Entry X). t e.height) e))
    ∙ ap (λ (e : Entry X). weighs t w us + w e) here

-- a walk up stops where h stands: before an entry that is higher, or at the end
pub stops_up : {X : Type 0} {le : X → X → Bool} (o : Preorder le)
    (es : List (Entry X)) (used : ℕ) (i k : ℕ) (h : X) → NotOver le es i h
    → ((d : Entry X) → Adjacent le es used d i k) → ((d : Entry X) → (k ≡ 0 → ⊥) → le (height_at es d k) h ≡ false) → StandsAt le es used h i
stops_up {le = le} o es used i k h under cut over d j h₁ h₂ =
    let hj = height_at es d j in
    equal_tests _ _
    (λ q. true_from_ne_false _ (λ off.
    let on : onwards le (height_at es d) k hj ≡ true = cut d j h₁ h₂ ∙ ap not off in
    let pos : k ≡ 0 → ⊥ = λ z. both_ways _ (ow_end le (height_at es d) k hj z) on in
    both_ways _ (over d pos) (o.transitive _ hj h (sym (ow_at le (height_at es d) k hj pos) ∙ on) q)))
    (λ q.
    let pos : i ≡ 0 → ⊥ = λ z. both_ways _ (np_end le (height_at es d) i hj z) q in
    o.transitive hj _ h (sym (np_at le (height_at es d) i hj pos) ∙ q) (under d pos))

-- a walk up that has passed all entries is where h stands
pub stops_full : {X : Type 0} {le : X → X → Bool} (o : Preorder le)
    (es : List (Entry X)) (used : ℕ) (i : ℕ) (h : X) → used ≤ length es - 1 → NotOver le es i h
    → ((d : Entry X) → used ≤ weighs (not_past le (height_at es d) i) one (in_use es used)) → StandsAt le es used h i
stops_full {X} {le} o es used i h room under full d j h₁ h₂ =
    let hj = height_at es d j in
    let n = length_used es used room in
    let on : not_past le (height_at es d) i hj ≡ true
    = sym (ap (λ (e : Entry X). not_past le (height_at es d) i e.height) (by_link es used j d h₁ h₂)) ∙ weighs_full (not_past le (height_at es d) i) (in_use es used) (omega (arith, full d)) (j - 1) d (omega arith) in
    let pos : i ≡ 0 → ⊥ = λ z. both_ways _ (np_end le (height_at es d) i hj z) on in
    o.transitive hj _ h (sym (np_at le (height_at es d) i hj pos) ∙ on) (under d pos) ∙ sym on

-- a walk down stops where h stands: at an entry that is not higher, or at the end
pub stops_down : {X : Type 0} {le : X → X → Bool} (o : Preorder le)
    (es : List (Entry X)) (used : ℕ) (i : ℕ) (h : X) → NotUnder le es used i h → NotOver le es i h → StandsAt le es used h i
stops_down {le = le} o es used i h over under d j h₁ h₂ =
    let hj = height_at es d j in
    equal_tests _ _
    (λ q. true_from_ne_false _ (λ off. both_ways _ (over d j h₁ h₂ off) q))
    (λ q.
    let pos : i ≡ 0 → ⊥ = λ z. both_ways _ (np_end le (height_at es d) i hj z) q in
    o.transitive hj _ h (sym (np_at le (height_at es d) i hj pos) ∙ q) (under d pos))

-- a walk down that has passed all entries is where h stands
pub stops_none : {X : Type 0} (le : X → X → Bool)
    (es : List (Entry X)) (used : ℕ) (i : ℕ) (h : X) → used ≤ length es - 1 → NotUnder le es used i h
    → ((d : Entry X) → weighs (not_past le (height_at es d) i) one (in_use es used) ≡ 0) → StandsAt le es used h i
stops_none {X} le es used i h room over none d j h₁ h₂ =
    let hj = height_at es d j in
    let n = length_used es used room in
    let off : not_past le (height_at es d) i hj ≡ false
    = sym (ap (λ (e : Entry X). not_past le (height_at es d) i e.height) (by_link es used j d h₁ h₂)) ∙ weighs_none (not_past le (height_at es d) i) (in_use es used) (none d) (j - 1) d (omega arith) in
    over d j h₁ h₂ off ∙ sym off

-- one step down from an entry higher than h, all entries past it are higher
pub still_over : {X : Type 0} {le : X → X → Bool} (o : Preorder le)
    (es : List (Entry X)) (used : ℕ) (a i : ℕ) (h : X) → (i ≡ 0 → ⊥) → ((d : Entry X) → le (height_at es d i) h ≡ false)
    → ((d : Entry X) → Adjacent le es used d a i) → NotUnder le es used a h
still_over {le = le} o es used a i h pos high cut d j h₁ h₂ off =
    let hj = height_at es d j in
    false_from_ne_true _ (λ q. both_ways _ (high d) (o.transitive _ hj h (sym (ow_at le (height_at es d) i hj pos) ∙ cut d j h₁ h₂ ∙ ap not off) q))

-- a walk that has not begun
pub went_none : {X : Type 0} (le : X → X → Bool) (es : List (Entry X)) (used a : ℕ) → Went le es used a a 0 0
went_none le es used a = record { ranks = λ d. omega arith; counts = λ d. omega arith }

-- a walk up grows by one step
pub went_up : {X : Type 0} {le : X → X → Bool} (o : Preorder le)
    (es : List (Entry X)) (used : ℕ) → used ≤ length es - 1 → InOrder le es used → (a i k steps passed : ℕ) (e : Entry X)
    → (k ≡ 0 → ⊥) → k ≤ used → e ≡ get_or es k e
    → ((d : Entry X) → Adjacent le es used d i k)
    → Went le es used a i steps passed → Went le es used a k (steps + 1) (passed + e.number)
went_up {X} {le} o es used room s a i k steps passed e pos low is cut w =
    record {
      ranks = λ d. omega (arith, w.ranks d, step_weighs o es used room s i k pos low cut one d);
      counts = λ d.
          omega (
            arith,
            w.counts d,
            step_weighs o es used room s i k pos low cut many d,
            ap (λ (x : Entry X). x.number) (get_or_read es k e (omega arith) is d),
          );
    }

-- a walk down grows by one step
pub went_down : {X : Type 0} {le : X → X → Bool} (o : Preorder le)
    (es : List (Entry X)) (used : ℕ) → used ≤ length es - 1 → InOrder le es used → (b i k steps passed : ℕ) (e : Entry X)
    → (k ≡ 0 → ⊥) → k ≤ used → e ≡ get_or es k e
    → ((d : Entry X) → Adjacent le es used d i k)
    → Went le es used k b steps passed → Went le es used i b (steps + 1) (passed + e.number)
went_down {X} {le} o es used room s b i k steps passed e pos low is cut w =
    record {
      ranks = λ d. omega (arith, w.ranks d, step_weighs o es used room s i k pos low cut one d);
      counts = λ d.
          omega (
            arith,
            w.counts d,
            step_weighs o es used room s i k pos low cut many d,
            ap (λ (x : Entry X). x.number) (get_or_read es k e (omega arith) is d),
          );
    }

-- the link up that is read leads to the neighbour above
pub up_read : {X : Type 0} (le : X → X → Bool) (es : List (Entry X)) (used i : ℕ) (e : Entry X) → InOrder le es used
    → i ≤ used → i < length es → e ≡ get_or es i e → (d : Entry X) → Adjacent le es used d i e.next
up_read {X} le es used i e s low lt is d =
    subst (λ (x : Entry X). Adjacent le es used d i x.next) (sym (get_or_read es i e lt is d)) ((s d).up i low)

-- the link down that is read leads to the neighbour below
pub down_read : {X : Type 0} (le : X → X → Bool) (es : List (Entry X)) (used i : ℕ) (e : Entry X) → Linked es used → InOrder le es used
    → i ≤ used → i < length es → e ≡ get_or es i e → (d : Entry X) → Adjacent le es used d e.prev i
down_read {X} le es used i e l s low lt is d =
    let t = l.2 i d low lt in
    subst (λ (x : Entry X). Adjacent le es used d x.prev i) (sym (get_or_read es i e lt is d))
    (subst (λ m. Adjacent le es used d (prev_at es d i) m) t.3 ((s d).up (prev_at es d i) t.1))

-- what a test says of the height that is read
pub height_read : {X : Type 0} (le : X → X → Bool) (es : List (Entry X)) (i : ℕ) (e : Entry X) (h : X) (b : Bool)
    → i < length es → e ≡ get_or es i e → le e.height h ≡ b → (d : Entry X) → le (height_at es d i) h ≡ b
height_read {X} le es i e h b lt is q d = sym (ap (λ (x : Entry X). le x.height h) (get_or_read es i e lt is d)) ∙ q

-- the links and the number that are read are within their bounds
pub in_range : {X : Type 0} (es : List (Entry X)) (used i : ℕ) (e : Entry X) → Linked es used → i ≤ used → i < length es → e ≡ get_or es i e
    → (e.next ≤ used) × (e.prev ≤ used) × (e.number ≤ 1048576)
in_range {X} es used i e l low lt is =
    let t = l.2 i e low lt in
    subst (λ (x : Entry X). (x.next ≤ used) × (x.prev ≤ used) × (x.number ≤ 1048576)) (sym is) (t.0, t.1, t.2)
