-- One height more: a new entry, or one more of a level entry.
use Rattle.std.proofs.Common.{◌≡◌, ℕ, suc, ◌+◌, ◌-◌, ◌<◌, ◌≤◌, Bool, true, false, cond, ◌⊎◌, List, [], ◌∷◌, length, get_or, drop, sum_by, sym, refl, ap, ◌∙◌, subst, inl, inr, ⊎_elim, arith}
use Rattle.std.proofs.lemmas.List.{get_or_default, length-set, length-drop, get_or-drop}
use Rattle.std.proofs.lemmas.List.Sums.{sum_by-cons, sum_by_more, get_or-le-sum_by}
use Rattle.std.proofs.lemmas.Bool.{cases_Bool, cases_eq, eq-eqb, ne_eqb}
use Rattle.finger_list.specs.declared.entry.Entry.{Entry}
use Rattle.finger_list.specs.declared.finger.Finger.{Finger}
use Rattle.finger_list.specs.Entries.{in_use, height_at, number_at, next_at, held_in}
use Rattle.finger_list.specs.Linking.{Linked, Stands, StandsAt}
use Rattle.finger_list.specs.Writing.{Inserted}
use Rattle.finger_list.specs.Hands.{followed_link}
use Rattle.finger_list.specs.Walking.{part, many, weighs}
use Rattle.finger_list.specs.Changes.{Grown}
use Rattle.heights.specs.Order.{Preorder}
use Rattle.counters.proofs.Preorders.{reflexive}
use Rattle.finger_list.proofs.Weights.{length_used, at_used, by_link}
use Rattle.finger_list.proofs.Chains.{np_at}
use Rattle.finger_list.proofs.Distances.{tally_heights, length_held}
use Rattle.finger_list.proofs.Rewriting.{inserted_order}
use Rattle.finger_list.proofs.Renumbering.{renumbered, renumbered_positive, renumbered_linked, renumbered_order, renumbered_stands, renumbered_weighs, one_more}
use Rattle.finger_list.proofs.Standing.{stands_stay, stands_go}

-- lists that weigh alike entry by entry weigh alike
pub sum_alike : {X : Type 0} (f : X → ℕ) (us vs : List X) → length us ≡ length vs
    → ((k : ℕ) (d : X) → k < length us → f (get_or us k d) ≡ f (get_or vs k d)) → sum_by f us ≡ sum_by f vs
sum_alike f [] [] n q = refl
sum_alike f [] (v ∷ vs) n q = absurd (omega arith)
sum_alike f (u ∷ us) [] n q = absurd (omega arith)
sum_alike f (u ∷ us) (v ∷ vs) n q =
    omega (arith, sum_by-cons f u us, sum_by-cons f v vs, q 0 u (omega arith), sum_alike f us vs (omega arith) (λ k d l. q (suc k) d (omega arith)))

-- entries of equal heights and numbers weigh alike
pub part_alike : {X : Type 0} (t : X → Bool) (e f : Entry X) → e.height ≡ f.height → e.number ≡ f.number → part t many e ≡ part t many f
part_alike {X} t e f q₁ q₂ =
    let u : X → ℕ = λ x. cond (t x) e.number 0 in
    let v : ℕ → ℕ = λ n. cond (t f.height) n 0 in
    ap u q₁ ∙ ap v q₂

-- a new entry weighs one of its height
pub inserted_weighs : {X : Type 0} (es fs : List (Entry X)) (used a : ℕ) (h : X) → used + 1 < length es → Inserted es fs used a h
    → (t : X → Bool) → weighs t many (in_use fs (used + 1)) ≡ cond (t h) 1 0 + weighs t many (in_use es used)
inserted_weighs {X} es fs used a h room w t =
    let d : Entry X = record { height = h; number = 0; next = 0; prev = 0 } in
    let f : Entry X → ℕ = part t many in
    let x : Entry X = record { height = h; number = 1; next = 0; prev = 0 } in
    let n₁ = length_used es used (omega arith) in
    let n₂ = length_used fs used (omega (arith, w.size)) in
    let more = sum_by_more f (drop 1 fs) used d (omega (arith, length-drop 1 fs, w.size)) in
    let at : get_or (drop 1 fs) used d ≡ get_or fs (used + 1) d = get_or-drop 1 fs used d ∙ ap (λ m. get_or fs m d) (omega arith) in
    let new : f (get_or (drop 1 fs) used d) ≡ f x = ap f at ∙ part_alike t (get_or fs (used + 1) d) x (w.height d) (w.number d) in
    let old : sum_by f (in_use fs used) ≡ sum_by f (in_use es used)
    = sum_alike f (in_use fs used) (in_use es used) (n₂ ∙ sym n₁)
    (λ k d' l.
    ap f (at_used fs used k d' (omega arith))
    ∙ part_alike t (get_or fs (1 + k) d') (get_or es (1 + k) d') (w.heights d' (1 + k) (omega arith)) (w.numbers d' (1 + k) (omega arith))
    ∙ sym (ap f (at_used es used k d' (omega arith)))) in
    omega (arith, more, new, old)

-- one of the old entries or the new one
more_of : (used j : ℕ) → j ≤ used + 1 → (j ≤ used) ⊎ (j ≡ used + 1)
more_of used j lo = ⊎_elim (λ (q : j ≡ used + 1). inr q) (λ (q : j ≡ used + 1 → ⊥). inl (omega arith)) (cases_eq j (used + 1))

-- what a new entry does
pub grown_new : {X : Type 0} {le : X → X → Bool} (o : Preorder le)
    (es fs : List (Entry X)) (used a : ℕ) (h : X) → Linked es used → a ≤ used → used + 1 < length es → Linked fs (used + 1)
    → Inserted es fs used a h → ((d : Entry X) → (a ≡ 0 → ⊥) → le h (height_at es d a) ≡ false)
    → Grown le es fs used a h (record { used = used + 1; link = used + 1 })
grown_new {X} {le} o es fs used a h l low room lf w new =
    let n = used + 1 in
    record {
      size = w.size;
      more = omega arith;
      inside = omega arith;
      linked = lf;
      positive = λ pos i d p lo. ⊎_elim
          (λ (q : i ≤ used). omega (arith, w.numbers d i q, pos i d p q))
          (λ (q : i ≡ n). subst (λ m. 0 < (get_or fs m d).number) (sym q) (omega (arith, w.number d)))
          (more_of used i lo);
      all = omega (arith, inserted_weighs es fs used a h room w (λ _. true), length_held fs n, length_held es used);
      held = λ s at. record {
        tallies = λ p b. omega (arith, inserted_weighs es fs used a h room w p, tally_heights p (in_use fs n), tally_heights p (in_use es used));
      };
      order = λ s at. inserted_order o es fs used a h l low room w s at new;
      here = λ s at d. stands_go o (height_at es d) (λ j. j ≤ used) (height_at fs d) (λ j. j ≤ n) h a n (omega arith) (at d) (more_of used) (w.height d) (w.heights d) h (at d) (reflexive o h);
      fingers = λ s at f fl fa d.
          let p = f.height in
          let i = f.link in
          ⊎_elim
          (λ (e : i ≡ a). ⊎_elim
          (λ (q : le h p ≡ true).
          let fol : n ≡ followed_link le f a n h = sym (ap (λ b. cond b (cond (le h p) n i) i) (eq-eqb i a e) ∙ ap (λ b. cond b n i) q) in
          subst (λ m. Stands le (height_at fs d) (λ j. j ≤ n) p m) fol
          (stands_go o (height_at es d) (λ j. j ≤ used) (height_at fs d) (λ j. j ≤ n) h a n (omega arith) (at d) (more_of used) (w.height d) (w.heights d) p
          (subst (λ m. Stands le (height_at es d) (λ j. j ≤ used) p m) e (fa d)) q))
          (λ (q : le h p ≡ false).
          let fol : i ≡ followed_link le f a n h = sym (ap (λ b. cond b (cond (le h p) n i) i) (eq-eqb i a e) ∙ ap (λ b. cond b n i) q) in
          subst (λ m. Stands le (height_at fs d) (λ j. j ≤ n) p m) fol
          (stands_stay o (height_at es d) (next_at es d) (λ j. j ≤ used) (height_at fs d) (λ j. j ≤ n) (s d) h a n low (at d) (new d) (more_of used) (w.height d) (w.heights d) p i fl (fa d) (λ _. q)))
          (cases_Bool (le h p)))
          (λ (ne : i ≡ a → ⊥).
          let fol : i ≡ followed_link le f a n h = sym (ap (λ b. cond b (cond (le h p) n i) i) (ne_eqb i a ne)) in
          subst (λ m. Stands le (height_at fs d) (λ j. j ≤ n) p m) fol
          (stands_stay o (height_at es d) (next_at es d) (λ j. j ≤ used) (height_at fs d) (λ j. j ≤ n) (s d) h a n low (at d) (new d) (more_of used) (w.height d) (w.heights d) p i fl (fa d) (λ e. absurd (ne e))))
          (cases_eq i a);
    }

-- a finger stays when the height that came stands where it stood
same_link : {X : Type 0} (le : X → X → Bool) (f : Finger X) (a : ℕ) (h : X) → f.link ≡ followed_link le f a a h
same_link {X} le f a h =
    let i = f.link in
    ⊎_elim
    (λ (e : i ≡ a).
    let z : (b : Bool) → i ≡ cond b a i = λ b. elim b as (λ v. i ≡ cond v a i) [ true ↦ e | false ↦ refl ] in
    z (le h f.height) ∙ sym (ap (λ b. cond b (cond (le h f.height) a i) i) (eq-eqb i a e)))
    (λ (ne : i ≡ a → ⊥). sym (ap (λ b. cond b (cond (le h f.height) a i) i) (ne_eqb i a ne)))
    (cases_eq i a)

-- an entry is level with h where h stands at it and is not higher
pub level_there : {X : Type 0} {le : X → X → Bool} (o : Preorder le)
    (es : List (Entry X)) (used a : ℕ) (h : X) (d : Entry X) → 0 < a → a ≤ used → StandsAt le es used h a → le (height_at es d a) h ≡ true
level_there {le = le} o es used a h d pos low at =
    at d a pos low ∙ np_at le (height_at es d) a (height_at es d a) (λ z. omega arith) ∙ reflexive o (height_at es d a)

-- what one more of a level entry does
pub grown_bump : {X : Type 0} {le : X → X → Bool} (o : Preorder le)
    (es : List (Entry X)) (used a : ℕ) (h : X) (e d : Entry X) → Linked es used → 0 < a → a ≤ used → number_at es d a < 1048576
    → le h (height_at es e a) ≡ true → Grown le es (renumbered es e a (number_at es d a + 1)) used a h (record { used = used; link = a })
grown_bump {X} {le} o es used a h e d l pos low small up =
    let n = number_at es d a in
    let fs = renumbered es e a (n + 1) in
    let lt : a < length es = omega (arith, l.0) in
    let same : number_at es e a ≡ n = ap (λ (x : Entry X). x.number) (get_or_default es a e d lt) in
    let w = renumbered_weighs es used e a (n + 1) l.0 pos low in
    let keeps = renumbered_stands le es used e a (n + 1) in
    record {
      size = length-set es a _;
      more = omega arith;
      inside = low;
      linked = renumbered_linked es used e a (n + 1) lt (omega arith) l;
      positive = renumbered_positive es used e a (n + 1) lt (omega arith);
      all = omega (arith, w (λ _. true), same, length_held fs used, length_held es used);
      held = λ so at. record {
        tallies = λ p b.
            let g : Bool → ℕ = λ v. cond v 1 0 in
            omega (
              arith,
              w p,
              ap (λ m. cond (p (height_at es e a)) m 0) same,
              one_more (p (height_at es e a)) n,
              ap g (b (height_at es e a) h (level_there o es used a h e pos low at) up),
              tally_heights p (in_use fs used),
              tally_heights p (in_use es used),
            );
      };
      order = λ so at. renumbered_order le es used e a (n + 1) lt l so;
      here = λ so at. keeps h a low at;
      fingers = λ so at f lo fa. subst (λ m. StandsAt le fs used f.height m) (same_link le f a h) (keeps f.height f.link lo fa);
    }

-- an entry's number is at most the number of heights
pub number_small : {X : Type 0} (es : List (Entry X)) (used a : ℕ) (d : Entry X) → used ≤ length es - 1 → 0 < a → a ≤ used
    → number_at es d a ≤ length (held_in es used)
number_small {X} es used a d room pos low =
    let f : Entry X → ℕ = part (λ _. true) many in
    let n = length_used es used room in
    omega (arith, get_or-le-sum_by f (in_use es used) (a - 1) d (omega (arith, n)), ap f (by_link es used a d pos low), length_held es used)
