-- One height less: one less of an entry, or the entry with it.
use Rattle.std.proofs.Common.{◌≡◌, ℕ, ◌+◌, ◌-◌, ◌<◌, ◌≤◌, Bool, true, false, cond, eqb, List, length, get_or, sym, refl, ap, ◌∙◌, subst, ⊎_elim, arith}
use Rattle.std.proofs.lemmas.List.{get_or_default, length-set}
use Rattle.std.proofs.lemmas.Bool.{cases_eq, eq-eqb, ne_eqb, both_ways, and_parts, false_from_ne_true}
use Rattle.finger_list.specs.declared.entry.Entry.{Entry}
use Rattle.finger_list.specs.declared.change.Spot.{Spot}
use Rattle.finger_list.specs.Entries.{in_use, height_at, number_at, next_at, prev_at, held_in, Positive}
use Rattle.finger_list.specs.Linking.{Linked, not_past, StandsAt}
use Rattle.finger_list.specs.Writing.{by_name}
use Rattle.finger_list.specs.Hands.{left_link}
use Rattle.finger_list.specs.Walking.{many}
use Rattle.finger_list.specs.Changes.{EntryGone, Shrunk}
use Rattle.counters.specs.Held.{tally}
use Rattle.heights.specs.Order.{Preorder, level}
use Rattle.counters.proofs.Tallies.{tally_always}
use Rattle.finger_list.proofs.Weights.{weighs_nothing, weighs_same, length_used, at_used}
use Rattle.finger_list.proofs.Chains.{np_at, np_link}
use Rattle.finger_list.proofs.Distances.{tally_heights, length_held}
use Rattle.finger_list.proofs.Growth.{level_there}
use Rattle.finger_list.proofs.Renumbering.{renumbered, renumbered_positive, renumbered_linked, renumbered_order, renumbered_stands, renumbered_weighs, one_more}
use Rattle.finger_list.proofs.Unlinking.{name_new, name_old, name_under, no_loop}

-- what one less of an entry does
pub shrunk_less : {X : Type 0} {le : X → X → Bool} (o : Preorder le)
    (es : List (Entry X)) (used a : ℕ) (h : X) (e d : Entry X) → Linked es used → 0 < a → a ≤ used → 1 < number_at es d a → Positive es used
    → le h (height_at es e a) ≡ true → Shrunk le es (renumbered es e a (number_at es d a - 1)) used a h (record { used = used; link = a })
shrunk_less {X} {le} o es used a h e d l pos low two ps up =
    let n = number_at es d a - 1 in
    let fs = renumbered es e a n in
    let lt : a < length es = omega (arith, l.0) in
    let same : number_at es e a ≡ n + 1 = omega (arith, ap (λ (x : Entry X). x.number) (get_or_default es a e d lt)) in
    let w = renumbered_weighs es used e a n l.0 pos low in
    let link : (i : ℕ) → i ≡ left_link a (record { used = used; link = a }) used i
    = λ i. sym (ap (λ b. cond b i (by_name used a (cond (eqb i a) a i))) (eq-eqb used used refl)) in
    record {
      size = length-set es a _;
      fewer = omega arith;
      linked = renumbered_linked es used e a n lt (omega (arith, same, (l.2 a e low lt).2)) l;
      inside = λ i im. subst (λ m. m ≤ used) (link i) im;
      positive = renumbered_positive es used e a n lt (omega arith) ps;
      all = omega (arith, w (λ _. true), same, length_held es used, length_held fs used);
      held = λ so at. record {
        tallies = λ p b.
            let g : Bool → ℕ = λ v. cond v 1 0 in
            omega (
              arith,
              w p,
              ap (λ m. cond (p (height_at es e a)) m 0) same,
              one_more (p (height_at es e a)) n,
              ap g (b (height_at es e a) h (level_there o es used a h e pos low at) up),
              tally_heights p (in_use es used),
              tally_heights p (in_use fs used),
            );
      };
      order = renumbered_order le es used e a n lt l;
      fingers = λ so p i im at. subst (λ m. StandsAt le fs used p m) (link i) (renumbered_stands le es used e a n p i im at);
    }

-- what the last height of an entry does when it goes
pub shrunk_out : {X : Type 0} {le : X → X → Bool} (o : Preorder le)
    (es fs : List (Entry X)) (used a : ℕ) (h : X) (e : Entry X) (prev : ℕ) → Linked es used → 0 < a → a ≤ used → e ≡ get_or es a e → e.number ≤ 1 → Positive es used
    → le h e.height ≡ true → prev ≡ by_name a 0 e.prev → EntryGone le es fs used a → Shrunk le es fs used a h (record { used = used - 1; link = prev })
shrunk_out {X} {le} o es fs used a h e prev l pos low is one' ps up pv w =
    let lt : a < length es = omega (arith, l.0) in
    let r : Spot = record { used = used - 1; link = prev } in
    let num : e.number ≡ 1 = omega (arith, ps a e pos low, ap (λ (x : Entry X). x.number) is) in
    let nc : used - 1 ≡ used → ⊥ = λ q. omega arith in
    let link : (i : ℕ) → by_name used a (cond (eqb i a) prev i) ≡ left_link a r used i
    = λ i. sym (ap (λ b. cond b i (by_name used a (cond (eqb i a) prev i))) (ne_eqb (used - 1) used nc)) in
    let t = l.2 a e low lt in
    let pe : e.prev ≡ prev_at es e a = ap (λ (x : Entry X). x.prev) is in
    let pr : (prev ≤ used) × (prev ≡ a → ⊥) = ⊎_elim
    (λ (q : e.prev ≡ a). let z = pv ∙ name_new a 0 e.prev q in (omega (arith, z), λ y. omega (arith, z, y)))
    (λ (q : e.prev ≡ a → ⊥). let z = pv ∙ name_old a 0 e.prev q in (omega (arith, z, pe, t.1), λ y. q (sym z ∙ y)))
    (cases_eq e.prev a) in
    let weigh : (t : X → Bool) → tally t (held_in es used) ≡ cond (t e.height) 1 0 + tally t (held_in fs (used - 1))
    = λ t. w.held t e ∙ ap (λ (x : Entry X). cond (t x.height) x.number 0 + tally t (held_in fs (used - 1))) (sym is)
    ∙ ap (λ n. cond (t e.height) n 0 + tally t (held_in fs (used - 1))) num in
    record {
      size = w.size;
      fewer = omega arith;
      linked = w.linked;
      inside = λ i im. subst (λ m. m ≤ used - 1) (link i) (⊎_elim
          (λ (q : i ≡ a).
          let z : cond (eqb i a) prev i ≡ prev = ap (λ b. cond b prev i) (eq-eqb i a q) in
          subst (λ m. by_name used a m ≤ used - 1) (sym z) (name_under used a prev low pr.0 pr.1))
          (λ (q : i ≡ a → ⊥).
          let z : cond (eqb i a) prev i ≡ i = ap (λ b. cond b prev i) (ne_eqb i a q) in
          subst (λ m. by_name used a m ≤ used - 1) (sym z) (name_under used a i low im q))
          (cases_eq i a));
      positive = w.positive ps;
      all = omega (arith, weigh (λ _. true), tally_always (held_in es used), tally_always (held_in fs (used - 1)));
      held = λ so at. record {
        tallies = λ p b.
            let g : Bool → ℕ = λ v. cond v 1 0 in
            let down : le e.height h ≡ true = ap (λ (x : Entry X). le x.height h) is ∙ level_there o es used a h e pos low at in
            omega (arith, weigh p, ap g (b e.height h down up));
      };
      order = w.order;
      fingers = λ so p i im at.
          let nl : e.prev ≡ a → ⊥ = λ q. no_loop o (height_at es e) (next_at es e) (λ j. j ≤ used) (so e) a (prev_at es e a) pos low t.3 (sym pe ∙ q) in
          let pq : prev_at es e a ≡ prev = sym pe ∙ sym (pv ∙ name_old a 0 e.prev nl) in
          subst (λ m. StandsAt le fs (used - 1) p m) (ap (λ y. by_name used a (cond (eqb i a) y i)) pq ∙ link i) (w.fingers so e p i im at);
    }

-- nothing is level with h where it stands at a lower entry
pub none_there : {X : Type 0} {le : X → X → Bool} (o : Preorder le)
    (es : List (Entry X)) (used a : ℕ) (h : X) → used ≤ length es - 1 → ((d : Entry X) → (a ≡ 0 → ⊥) → le h (height_at es d a) ≡ false) → StandsAt le es used h a
    → tally (λ x. level le x h) (held_in es used) ≡ 0
none_there {X} {le} o es used a h room low at =
    let us = in_use es used in
    let n = length_used es used room in
    let off : (k : ℕ) (d : Entry X) → k < length us → level le (get_or us k d).height h ≡ false
    = λ k d lt.
    let e = at_used es used k d (omega arith) in
    ap (λ (x : Entry X). level le x.height h) e ∙ false_from_ne_true _ (λ q.
    let b = and_parts (le (height_at es d (1 + k)) h) (le h (height_at es d (1 + k))) q in
    let on : not_past le (height_at es d) a (height_at es d (1 + k)) ≡ true = sym (at d (1 + k) (omega arith) (omega arith)) ∙ b.0 in
    let nz = np_link le (height_at es d) a (height_at es d (1 + k)) on in
    both_ways _ (low d nz) (o.transitive h (height_at es d (1 + k)) (height_at es d a) b.1 (sym (np_at le (height_at es d) a (height_at es d (1 + k)) nz) ∙ on))) in
    tally_heights (λ x. level le x h) us ∙ weighs_same (λ x. level le x h) (λ _. false) many us off ∙ weighs_nothing many us
