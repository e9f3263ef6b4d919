-- Writes of links, entry by entry, and the insertion that they make.
use Rattle.std.proofs.Common.{◌≡◌, ℕ, zero, suc, ◌+◌, ◌<◌, ◌≤◌, Bool, false, List, [], ◌∷◌, length, get_or, set, sym, refl, ap, ◌∙◌, subst, inl, inr, ⊎_elim, arith}
use Rattle.std.proofs.lemmas.List.{get_or_default, get_or-set_same, get_or-set_other, length-set}
use Rattle.std.proofs.lemmas.Bool.{cases_eq}
use Rattle.finger_list.specs.declared.entry.Entry.{Entry}
use Rattle.finger_list.specs.Entries.{height_at, number_at, next_at, prev_at}
use Rattle.finger_list.specs.Linking.{Linked, InOrder, StandsAt}
use Rattle.finger_list.specs.Writing.{with_next, with_prev, Inserted}
use Rattle.heights.specs.Order.{Preorder}
use Rattle.finger_list.proofs.Chains.{chain_insert}

-- an entry written with another link up
pub next_set : {X : Type 0} (es : List (Entry X)) (i x : ℕ) (d : Entry X)
    → set es i (record { height = height_at es d i; number = number_at es d i; next = x; prev = prev_at es d i }) ≡ with_next es i x
next_set [] i x d = refl
next_set (y ∷ es) zero x d = refl
next_set (y ∷ es) (suc i) x d = ap (λ us. y ∷ us) (next_set es i x d)

-- another link up keeps the length
pub next_length : {X : Type 0} (es : List (Entry X)) (i x : ℕ) → length (with_next es i x) ≡ length es
next_length [] i x = refl
next_length (y ∷ es) zero x = refl
next_length (y ∷ es) (suc i) x = ap suc (next_length es i x)

-- another link up keeps the heights
pub next_height : {X : Type 0} (es : List (Entry X)) (i x : ℕ) (d : Entry X) (j : ℕ) → height_at (with_next es i x) d j ≡ height_at es d j
next_height [] i x d j = refl
next_height (y ∷ es) zero x d zero = refl
next_height (y ∷ es) zero x d (suc j) = refl
next_height (y ∷ es) (suc i) x d zero = refl
next_height (y ∷ es) (suc i) x d (suc j) = next_height es i x d j

-- another link up keeps the numbers
pub next_number : {X : Type 0} (es : List (Entry X)) (i x : ℕ) (d : Entry X) (j : ℕ) → number_at (with_next es i x) d j ≡ number_at es d j
next_number [] i x d j = refl
next_number (y ∷ es) zero x d zero = refl
next_number (y ∷ es) zero x d (suc j) = refl
next_number (y ∷ es) (suc i) x d zero = refl
next_number (y ∷ es) (suc i) x d (suc j) = next_number es i x d j

-- another link up keeps the links down
pub next_prev : {X : Type 0} (es : List (Entry X)) (i x : ℕ) (d : Entry X) (j : ℕ) → prev_at (with_next es i x) d j ≡ prev_at es d j
next_prev [] i x d j = refl
next_prev (y ∷ es) zero x d zero = refl
next_prev (y ∷ es) zero x d (suc j) = refl
next_prev (y ∷ es) (suc i) x d zero = refl
next_prev (y ∷ es) (suc i) x d (suc j) = next_prev es i x d j

-- another link up is there
pub next_here : {X : Type 0} (es : List (Entry X)) (i x : ℕ) (d : Entry X) → i < length es → next_at (with_next es i x) d i ≡ x
next_here [] i x d lt = absurd (omega arith)
next_here (y ∷ es) zero x d lt = refl
next_here (y ∷ es) (suc i) x d lt = next_here es i x d (omega arith)

-- another link up keeps the others
pub next_other : {X : Type 0} (es : List (Entry X)) (i x : ℕ) (d : Entry X) (j : ℕ) → (j ≡ i → ⊥) → next_at (with_next es i x) d j ≡ next_at es d j
next_other [] i x d j ne = refl
next_other (y ∷ es) zero x d zero ne = absurd (ne refl)
next_other (y ∷ es) zero x d (suc j) ne = refl
next_other (y ∷ es) (suc i) x d zero ne = refl
next_other (y ∷ es) (suc i) x d (suc j) ne = next_other es i x d j (λ q. ne (ap suc q))

-- an entry written with another link down
pub prev_set : {X : Type 0} (es : List (Entry X)) (i x : ℕ) (d : Entry X)
    → set es i (record { height = height_at es d i; number = number_at es d i; next = next_at es d i; prev = x }) ≡ with_prev es i x
prev_set [] i x d = refl
prev_set (y ∷ es) zero x d = refl
prev_set (y ∷ es) (suc i) x d = ap (λ us. y ∷ us) (prev_set es i x d)

-- another link down keeps the length
pub prev_length : {X : Type 0} (es : List (Entry X)) (i x : ℕ) → length (with_prev es i x) ≡ length es
prev_length [] i x = refl
prev_length (y ∷ es) zero x = refl
prev_length (y ∷ es) (suc i) x = ap suc (prev_length es i x)

-- another link down keeps the heights
pub prev_height : {X : Type 0} (es : List (Entry X)) (i x : ℕ) (d : Entry X) (j : ℕ) → height_at (with_prev es i x) d j ≡ height_at es d j
prev_height [] i x d j = refl
prev_height (y ∷ es) zero x d zero = refl
prev_height (y ∷ es) zero x d (suc j) = refl
prev_height (y ∷ es) (suc i) x d zero = refl
prev_height (y ∷ es) (suc i) x d (suc j) = prev_height es i x d j

-- another link down keeps the numbers
pub prev_number : {X : Type 0} (es : List (Entry X)) (i x : ℕ) (d : Entry X) (j : ℕ) → number_at (with_prev es i x) d j ≡ number_at es d j
prev_number [] i x d j = refl
prev_number (y ∷ es) zero x d zero = refl
prev_number (y ∷ es) zero x d (suc j) = refl
prev_number (y ∷ es) (suc i) x d zero = refl
prev_number (y ∷ es) (suc i) x d (suc j) = prev_number es i x d j

-- another link down keeps the links up
pub prev_next : {X : Type 0} (es : List (Entry X)) (i x : ℕ) (d : Entry X) (j : ℕ) → next_at (with_prev es i x) d j ≡ next_at es d j
prev_next [] i x d j = refl
prev_next (y ∷ es) zero x d zero = refl
prev_next (y ∷ es) zero x d (suc j) = refl
prev_next (y ∷ es) (suc i) x d zero = refl
prev_next (y ∷ es) (suc i) x d (suc j) = prev_next es i x d j

-- another link down is there
pub prev_here : {X : Type 0} (es : List (Entry X)) (i x : ℕ) (d : Entry X) → i < length es → prev_at (with_prev es i x) d i ≡ x
prev_here [] i x d lt = absurd (omega arith)
prev_here (y ∷ es) zero x d lt = refl
prev_here (y ∷ es) (suc i) x d lt = prev_here es i x d (omega arith)

-- another link down keeps the others
pub prev_other : {X : Type 0} (es : List (Entry X)) (i x : ℕ) (d : Entry X) (j : ℕ) → (j ≡ i → ⊥) → prev_at (with_prev es i x) d j ≡ prev_at es d j
prev_other [] i x d j ne = refl
prev_other (y ∷ es) zero x d zero ne = absurd (ne refl)
prev_other (y ∷ es) zero x d (suc j) ne = refl
prev_other (y ∷ es) (suc i) x d zero ne = refl
prev_other (y ∷ es) (suc i) x d (suc j) ne = prev_other es i x d j (λ q. ne (ap suc q))

-- the three writes of an insertion
pub inserted_by : {X : Type 0} (es : List (Entry X)) (used a : ℕ) (h : X) (o : Entry X) (f : Entry X)
    → Linked es used → a ≤ used → used + 1 < length es
    → f.height ≡ h → f.number ≡ 1 → f.next ≡ next_at es o a → f.prev ≡ a
    → Inserted es (with_prev (with_next (set es (used + 1) f) a (used + 1)) (next_at es o a) (used + 1)) used a h
inserted_by {X} es used a h o f l low room fh fn fx fp =
    let n = used + 1 in
    let k = next_at es o a in
    let gs = set es n f in
    let ns = with_next gs a n in
    let size : length gs ≡ length es = length-set es n f in
    let size₂ : length ns ≡ length es = next_length gs a n ∙ size in
    let kd : (d : Entry X) → k ≡ next_at es d a = λ d. ap (λ (e : Entry X). e.next) (get_or_default es a o d (omega arith)) in
    let kl : k ≤ used = (l.2 a o low (omega arith)).0 in
    let at : (d : Entry X) → get_or gs n d ≡ f = λ d. get_or-set_same es n f d room in
    let off : (d : Entry X) (j : ℕ) → (j ≡ n → ⊥) → get_or gs j d ≡ get_or es j d = λ d j ne. get_or-set_other es n j f d ne in
    record {
      size = prev_length ns k n ∙ size₂;
      height = λ d. prev_height ns k n d n ∙ next_height gs a n d n ∙ ap (λ (e : Entry X). e.height) (at d) ∙ fh;
      heights = λ d j lo. prev_height ns k n d j ∙ next_height gs a n d j ∙ ap (λ (e : Entry X). e.height) (off d j (λ q. omega arith));
      number = λ d. prev_number ns k n d n ∙ next_number gs a n d n ∙ ap (λ (e : Entry X). e.number) (at d) ∙ fn;
      numbers = λ d j lo. prev_number ns k n d j ∙ next_number gs a n d j ∙ ap (λ (e : Entry X). e.number) (off d j (λ q. omega arith));
      next_a = λ d. prev_next ns k n d a ∙ next_here gs a n d (omega arith);
      next_n = λ d. prev_next ns k n d n ∙ next_other gs a n d n (λ q. omega arith) ∙ ap (λ (e : Entry X). e.next) (at d) ∙ fx ∙ kd d;
      nexts = λ d j lo ne. prev_next ns k n d j ∙ next_other gs a n d j ne ∙ ap (λ (e : Entry X). e.next) (off d j (λ q. omega arith));
      prev_k = λ d. subst (λ m. prev_at (with_prev ns k n) d m ≡ n) (kd d) (prev_here ns k n d (omega arith));
      prev_n = λ d. prev_other ns k n d n (λ q. omega arith) ∙ next_prev gs a n d n ∙ ap (λ (e : Entry X). e.prev) (at d) ∙ fp;
      prevs = λ d j lo ne. prev_other ns k n d j (λ q. ne (q ∙ kd d)) ∙ next_prev gs a n d j ∙ ap (λ (e : Entry X). e.prev) (off d j (λ q. omega arith));
    }

-- the links are tied again
pub inserted_linked : {X : Type 0} (es fs : List (Entry X)) (used a : ℕ) (h : X) → Linked es used → a ≤ used → used + 1 < length es → used < 1048576
    → Inserted es fs used a h → Linked fs (used + 1)
inserted_linked {X} es fs used a h l low room few w = (
  omega (arith, w.size),
  omega arith,
  λ i d le lt.
      let n = used + 1 in
      let k = next_at es d a in
      let ta = l.2 a d low (omega arith) in
      ⊎_elim
      (λ (q : i ≡ n).
      subst (λ m. (next_at fs d m ≤ n) × (prev_at fs d m ≤ n) × ((get_or fs m d).number ≤ 1048576) × (next_at fs d (prev_at fs d m) ≡ m) × (prev_at fs d (next_at fs d m) ≡ m)) (sym q) (
        omega (arith, w.next_n d, ta.0),
        omega (arith, w.prev_n d),
        omega (arith, w.number d),
        ap (next_at fs d) (w.prev_n d) ∙ w.next_a d,
        ap (prev_at fs d) (w.next_n d) ∙ w.prev_k d,
      ))
      (λ (ne : i ≡ n → ⊥).
      let lo : i ≤ used = omega arith in
      let t = l.2 i d lo (omega (arith, w.size)) in
      let up : (next_at fs d i ≤ n) × (prev_at fs d (next_at fs d i) ≡ i)
      = ⊎_elim
      (λ (q : i ≡ a).
      subst (λ m. (next_at fs d m ≤ n) × (prev_at fs d (next_at fs d m) ≡ m)) (sym q)
      (omega (arith, w.next_a d), ap (prev_at fs d) (w.next_a d) ∙ w.prev_n d))
      (λ (na : i ≡ a → ⊥).
      let e = w.nexts d i lo na in (
        omega (arith, e, t.0),
        ap (prev_at fs d) e ∙ w.prevs d (next_at es d i) t.0 (λ q. na (sym t.4 ∙ ap (prev_at es d) q ∙ ta.4)) ∙ t.4,
      ))
      (cases_eq i a) in
      let down : (prev_at fs d i ≤ n) × (next_at fs d (prev_at fs d i) ≡ i)
      = ⊎_elim
      (λ (q : i ≡ k).
      let e : prev_at fs d i ≡ n = ap (prev_at fs d) q ∙ w.prev_k d in
      (omega (arith, e), ap (next_at fs d) e ∙ w.next_n d ∙ sym q))
      (λ (nk : i ≡ k → ⊥).
      let e = w.prevs d i lo nk in (
        omega (arith, e, t.1),
        ap (next_at fs d) e ∙ w.nexts d (prev_at es d i) t.1 (λ q. nk (sym t.3 ∙ ap (next_at es d) q)) ∙ t.3,
      ))
      (cases_eq i k) in
      (up.0, down.0, omega (arith, w.numbers d i lo, t.2), down.1, up.1))
      (cases_eq i n),
)

-- the order is kept
pub inserted_order : {X : Type 0} {le : X → X → Bool} (o : Preorder le)
    (es fs : List (Entry X)) (used a : ℕ) (h : X) → Linked es used → a ≤ used → used + 1 < length es
    → Inserted es fs used a h → InOrder le es used → StandsAt le es used h a → ((d : Entry X) → (a ≡ 0 → ⊥) → le h (height_at es d a) ≡ false)
    → InOrder le fs (used + 1)
inserted_order {X} {le} o es fs used a h l low room w s at new d =
    chain_insert o (height_at es d) (next_at es d) (λ j. j ≤ used) (height_at fs d) (next_at fs d) (λ j. j ≤ used + 1)
    (s d) h a (used + 1) low (omega arith)
    (λ i lo. (l.2 i d lo (omega arith)).0)
    (at d) (new d)
    (λ j lo. ⊎_elim (λ (q : j ≡ used + 1). inr q) (λ (q : j ≡ used + 1 → ⊥). inl (omega arith)) (cases_eq j (used + 1)))
    (w.height d) (w.heights d) (w.next_a d) (w.next_n d) (w.nexts d)
