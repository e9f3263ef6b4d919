-- An entry goes out of the list, and the last takes its memory.
use Rattle.std.proofs.Common.{◌≡◌, ℕ, zero, suc, ◌+◌, ◌-◌, ◌<◌, ◌≤◌, Bool, cond, not, eqb, List, [], ◌∷◌, length, get_or, take, drop, set, sum_by, sym, refl, ap, ◌∙◌, subst, ⊎_elim, arith}
use Rattle.std.proofs.lemmas.List.{get_or_default, get_or_read, get_or-set_same, get_or-set_other, length-set, get_or-drop, length-drop}
use Rattle.std.proofs.lemmas.Bool.{cases_eq, eq-eqb, ne_eqb, both_ways}
use Rattle.std.proofs.lemmas.List.Sums.{sum_by-cons, sum_by_more}
use Rattle.finger_list.specs.declared.entry.Entry.{Entry}
use Rattle.finger_list.specs.Entries.{in_use, height_at, number_at, next_at, prev_at}
use Rattle.finger_list.specs.Linking.{Linked, not_past, onwards, Chain, InOrder, Stands, StandsAt}
use Rattle.finger_list.specs.Writing.{with_next, with_prev, by_name, Unlinked, Half, Relocated}
use Rattle.finger_list.specs.Walking.{part, many, weighs}
use Rattle.finger_list.specs.Changes.{left_by, EntryGone}
use Rattle.heights.specs.Order.{Preorder}
use Rattle.counters.proofs.Preorders.{reflexive}
use Rattle.finger_list.proofs.Weights.{length_used, at_used, by_link}
use Rattle.finger_list.proofs.Chains.{np_at, ow_at}
use Rattle.finger_list.proofs.Rewriting.{next_length, next_height, next_number, next_prev, next_here, next_other, prev_length, prev_height, prev_number, prev_next, prev_here, prev_other}
use Rattle.finger_list.proofs.Standing.{chain_unlink, stands_out, Renamed, chain_rename, stands_rename}
use Rattle.finger_list.proofs.Distances.{tally_heights}
use Rattle.finger_list.proofs.Growth.{sum_alike, part_alike}

-- the entry that gets a name has it
pub name_new : (from to x : ℕ) → x ≡ from → by_name from to x ≡ to
name_new from to x e = ap (λ b. cond b to x) (eq-eqb x from e)

-- another entry keeps its name
pub name_old : (from to x : ℕ) → (x ≡ from → ⊥) → by_name from to x ≡ x
name_old from to x ne = ap (λ b. cond b to x) (ne_eqb x from ne)

-- there and back
pub name_back : (m r x : ℕ) → (x ≡ r → ⊥) → by_name r m (by_name m r x) ≡ x
name_back m r x ne = ⊎_elim
    (λ (e : x ≡ m). ap (by_name r m) (name_new m r x e) ∙ name_new r m r refl ∙ sym e)
    (λ (n : x ≡ m → ⊥). ap (by_name r m) (name_old m r x n) ∙ name_old r m x ne)
    (cases_eq x m)

-- back and there again
pub name_forth : (m r x : ℕ) → (x ≡ m → ⊥) → by_name m r (by_name r m x) ≡ x
name_forth m r x ne = name_back r m x ne

-- by its new name an entry is not the last
pub name_in : (m r x : ℕ) → 0 < m → r < m → x ≤ m → by_name m r x ≤ m - 1
name_in m r x pos lt lo = ⊎_elim
    (λ (e : x ≡ m). subst (λ y. y ≤ m - 1) (sym (name_new m r x e)) (omega arith))
    (λ (n : x ≡ m → ⊥). subst (λ y. y ≤ m - 1) (sym (name_old m r x n)) (omega arith))
    (cases_eq x m)

-- the two writes that close the list round an entry
pub unlinked_by : {X : Type 0} (es : List (Entry X)) (used r : ℕ) (e : Entry X) → Linked es used → 0 < r → r ≤ used → e ≡ get_or es r e
    → Unlinked es (with_prev (with_next es e.prev e.next) e.next e.prev) r
unlinked_by {X} es used r e l pos low is =
    let a = e.prev in
    let k = e.next in
    let ns = with_next es a k in
    let lt : r < length es = omega (arith, l.0) in
    let ka : (d : Entry X) → k ≡ next_at es d r = λ d. ap (λ (x : Entry X). x.next) (get_or_read es r e lt is d) in
    let pa : (d : Entry X) → a ≡ prev_at es d r = λ d. ap (λ (x : Entry X). x.prev) (get_or_read es r e lt is d) in
    let t = l.2 r e low lt in
    let al : a < length es = omega (arith, pa e, t.1, l.0) in
    let kl : k < length ns = omega (arith, ka e, t.0, l.0, next_length es a k) in
    record {
      size = prev_length ns k a ∙ next_length es a k;
      heights = λ d j. prev_height ns k a d j ∙ next_height es a k d j;
      numbers = λ d j. prev_number ns k a d j ∙ next_number es a k d j;
      next_a = λ d. subst (λ m. next_at (with_prev ns k a) d m ≡ next_at es d r) (pa d) (prev_next ns k a d a ∙ next_here es a k d al ∙ ka d);
      nexts = λ d j ne. prev_next ns k a d j ∙ next_other es a k d j (λ q. ne (q ∙ pa d));
      prev_k = λ d. subst (λ m. prev_at (with_prev ns k a) d m ≡ prev_at es d r) (ka d) (prev_here ns k a d kl ∙ pa d);
      prevs = λ d j ne. prev_other ns k a d j (λ q. ne (q ∙ ka d)) ∙ next_prev es a k d j;
    }

-- with the list closed round an entry, the others are linked
pub unlinked_half : {X : Type 0} (es fs : List (Entry X)) (used r : ℕ) → Linked es used → 0 < r → r ≤ used → Unlinked es fs r → Half fs used r
unlinked_half {X} es fs used r l pos low w = (
  omega (arith, l.0, w.size),
  l.1,
  λ i d lo lt nr.
      let a = prev_at es d r in
      let k = next_at es d r in
      let t = l.2 i d lo (omega (arith, w.size)) in
      let tr = l.2 r d low (omega (arith, l.0)) in
      let up : (next_at fs d i ≤ used) × (prev_at fs d (next_at fs d i) ≡ i) × (next_at fs d i ≡ r → ⊥)
      = ⊎_elim
      (λ (q : i ≡ a).
      let e : next_at fs d i ≡ k = ap (next_at fs d) q ∙ w.next_a d in (
        omega (arith, e, tr.0),
        ap (prev_at fs d) e ∙ w.prev_k d ∙ sym q,
        λ z. nr (q ∙ ap (prev_at es d) (sym z ∙ e) ∙ tr.4),
      ))
      (λ (na : i ≡ a → ⊥).
      let e = w.nexts d i na in (
        omega (arith, e, t.0),
        ap (prev_at fs d) e ∙ w.prevs d (next_at es d i) (λ z. nr (sym t.4 ∙ ap (prev_at es d) z ∙ tr.4)) ∙ t.4,
        λ z. na (sym t.4 ∙ ap (prev_at es d) (sym e ∙ z)),
      ))
      (cases_eq i a) in
      let down : (prev_at fs d i ≤ used) × (next_at fs d (prev_at fs d i) ≡ i) × (prev_at fs d i ≡ r → ⊥)
      = ⊎_elim
      (λ (q : i ≡ k).
      let e : prev_at fs d i ≡ a = ap (prev_at fs d) q ∙ w.prev_k d in (
        omega (arith, e, tr.1),
        ap (next_at fs d) e ∙ w.next_a d ∙ sym q,
        λ z. nr (q ∙ ap (next_at es d) (sym z ∙ e) ∙ tr.3),
      ))
      (λ (nk : i ≡ k → ⊥).
      let e = w.prevs d i nk in (
        omega (arith, e, t.1),
        ap (next_at fs d) e ∙ w.nexts d (prev_at es d i) (λ z. nr (sym t.3 ∙ ap (next_at es d) z ∙ tr.3)) ∙ t.3,
        λ z. nk (sym t.3 ∙ ap (next_at es d) (sym e ∙ z)),
      ))
      (cases_eq i k) in
      (up.0, down.0, omega (arith, w.numbers d i, t.2), down.1, up.1, up.2, down.2),
)

-- a field of an entry before the links are mended
field_at : {X A : Type 0} (F : Entry X → A) (es : List (Entry X)) (m r : ℕ) (e f : Entry X) → r < length es → ((d : Entry X) → e ≡ get_or es m d) → F f ≡ F e
    → (d : Entry X) (j : ℕ) → F (get_or (set es r f) j d) ≡ F (get_or es (by_name r m j) d)
field_at {X} F es m r e f lt er q d j = ⊎_elim
    (λ (z : j ≡ r). ap (λ x. F (get_or (set es r f) x d)) z ∙ ap F (get_or-set_same es r f d lt) ∙ q ∙ ap F (er d) ∙ sym (ap (λ x. F (get_or es x d)) (name_new r m j z)))
    (λ (z : j ≡ r → ⊥). ap F (get_or-set_other es r j f d z) ∙ sym (ap (λ x. F (get_or es x d)) (name_old r m j z)))
    (cases_eq j r)

-- the three writes that move the last entry
pub relocated_by : {X : Type 0} (es : List (Entry X)) (m r : ℕ) (e f : Entry X) → Half es m r → 0 < r → r < m → e ≡ get_or es m e
    → f.height ≡ e.height → f.number ≡ e.number → f.next ≡ by_name m r e.next → f.prev ≡ by_name m r e.prev
    → Relocated es (with_prev (with_next (set es r f) f.prev r) f.next r) m r
relocated_by {X} es m r e f l pos lt is fh fn fx fp =
    let a = f.prev in
    let k = f.next in
    let gs = set es r f in
    let ns = with_next gs a r in
    let ml : m < length es = omega (arith, l.0) in
    let rl : r < length es = omega arith in
    let er : (d : Entry X) → e ≡ get_or es m d = get_or_read es m e ml is in
    let t₃ = λ (d : Entry X). (l.2 m d (omega arith) ml (λ q. omega arith)).3 in
    let t₄ = λ (d : Entry X). (l.2 m d (omega arith) ml (λ q. omega arith)).4 in
    let t₅ = λ (d : Entry X). (l.2 m d (omega arith) ml (λ q. omega arith)).5 in
    let t₆ = λ (d : Entry X). (l.2 m d (omega arith) ml (λ q. omega arith)).6 in
    let kd : (d : Entry X) → k ≡ by_name m r (next_at es d m) = λ d. fx ∙ ap (λ (x : Entry X). by_name m r x.next) (er d) in
    let ad : (d : Entry X) → a ≡ by_name m r (prev_at es d m) = λ d. fp ∙ ap (λ (x : Entry X). by_name m r x.prev) (er d) in
    let am : a ≤ m - 1 = subst (λ x. x ≤ m - 1) (sym (ad e)) (name_in m r (prev_at es e m) (omega arith) lt (l.2 m e (omega arith) ml (λ q. omega arith)).1) in
    let km : k ≤ m - 1 = subst (λ x. x ≤ m - 1) (sym (kd e)) (name_in m r (next_at es e m) (omega arith) lt (l.2 m e (omega arith) ml (λ q. omega arith)).0) in
    let size : length gs ≡ length es = length-set es r f in
    let size₂ : length ns ≡ length es = next_length gs a r ∙ size in
    let at : (d : Entry X) → get_or gs r d ≡ f = λ d. get_or-set_same es r f d rl in
    let off : (d : Entry X) (j : ℕ) → (j ≡ r → ⊥) → get_or gs j d ≡ get_or es j d = λ d j ne. get_or-set_other es r j f d ne in
    record {
      size = prev_length ns k r ∙ size₂;
      heights = λ d j jm. prev_height ns k r d j ∙ next_height gs a r d j ∙ field_at (λ x. x.height) es m r e f rl er fh d j;
      numbers = λ d j jm. prev_number ns k r d j ∙ next_number gs a r d j ∙ field_at (λ x. x.number) es m r e f rl er fn d j;
      nexts = λ d j jm. prev_next ns k r d j ∙ ⊎_elim
          (λ (z : j ≡ a).
          let old : by_name r m j ≡ prev_at es d m = ap (by_name r m) (z ∙ ad d) ∙ name_back m r (prev_at es d m) (t₆ d) in
          ap (next_at ns d) z ∙ next_here gs a r d (omega arith) ∙ sym (ap (λ x. by_name m r (next_at es d x)) old ∙ name_new m r _ (t₃ d)))
          (λ (z : j ≡ a → ⊥). next_other gs a r d j z ∙ ⊎_elim
          (λ (q : j ≡ r). ap (next_at gs d) q ∙ ap (λ (x : Entry X). x.next) (at d) ∙ kd d ∙ sym (ap (λ x. by_name m r (next_at es d x)) (name_new r m j q)))
          (λ (q : j ≡ r → ⊥).
          ap (λ (x : Entry X). x.next) (off d j q)
          ∙ sym (name_old m r (next_at es d j) (λ y. z (
          let back : j ≡ prev_at es d m = sym (l.2 j d (omega arith) (omega arith) q).4 ∙ ap (prev_at es d) y in
          back ∙ sym (name_old m r (prev_at es d m) (λ u. omega (arith, back, u))) ∙ sym (ad d))))
          ∙ sym (ap (λ x. by_name m r (next_at es d x)) (name_old r m j q)))
          (cases_eq j r))
          (cases_eq j a);
      prevs = λ d j jm. ⊎_elim
          (λ (z : j ≡ k).
          let old : by_name r m j ≡ next_at es d m = ap (by_name r m) (z ∙ kd d) ∙ name_back m r (next_at es d m) (t₅ d) in
          ap (prev_at (with_prev ns k r) d) z ∙ prev_here ns k r d (omega arith) ∙ sym (ap (λ x. by_name m r (prev_at es d x)) old ∙ name_new m r _ (t₄ d)))
          (λ (z : j ≡ k → ⊥). prev_other ns k r d j z ∙ next_prev gs a r d j ∙ ⊎_elim
          (λ (q : j ≡ r). ap (prev_at gs d) q ∙ ap (λ (x : Entry X). x.prev) (at d) ∙ ad d ∙ sym (ap (λ x. by_name m r (prev_at es d x)) (name_new r m j q)))
          (λ (q : j ≡ r → ⊥).
          ap (λ (x : Entry X). x.prev) (off d j q)
          ∙ sym (name_old m r (prev_at es d j) (λ y. z (
          let back : j ≡ next_at es d m = sym (l.2 j d (omega arith) (omega arith) q).3 ∙ ap (next_at es d) y in
          back ∙ sym (name_old m r (next_at es d m) (λ u. omega (arith, back, u))) ∙ sym (kd d))))
          ∙ sym (ap (λ x. by_name m r (prev_at es d x)) (name_old r m j q)))
          (cases_eq j r))
          (cases_eq j k);
    }

-- where r is the last, nothing moves
pub relocated_none : {X : Type 0} (es : List (Entry X)) (m r : ℕ) → Half es m r → r ≡ m → Relocated es es m r
relocated_none {X} es m r l e =
    let same : (j : ℕ) → j < m → j ≡ by_name r m j = λ j lt. sym (name_old r m j (λ q. omega arith)) in
    record {
      size = refl;
      heights = λ d j lt. ap (height_at es d) (same j lt);
      numbers = λ d j lt. ap (number_at es d) (same j lt);
      nexts = λ d j lt.
          let t = l.2 j d (omega arith) (omega (arith, l.0)) (λ q. omega arith) in
          sym (name_old m r (next_at es d j) (λ q. t.5 (q ∙ sym e))) ∙ ap (λ x. by_name m r (next_at es d x)) (same j lt);
      prevs = λ d j lt.
          let t = l.2 j d (omega arith) (omega (arith, l.0)) (λ q. omega arith) in
          sym (name_old m r (prev_at es d j) (λ q. t.6 (q ∙ sym e))) ∙ ap (λ x. by_name m r (prev_at es d x)) (same j lt);
    }

-- by its new name an entry that stays is not the last
pub name_under : (m r x : ℕ) → r ≤ m → x ≤ m → (x ≡ r → ⊥) → by_name m r x ≤ m - 1
name_under m r x lo xm ne = ⊎_elim
    (λ (e : x ≡ m). subst (λ y. y ≤ m - 1) (sym (name_new m r x e)) (⊎_elim (λ (z : r ≡ m). absurd (ne (e ∙ sym z))) (λ (z : r ≡ m → ⊥). omega arith) (cases_eq r m)))
    (λ (n : x ≡ m → ⊥). subst (λ y. y ≤ m - 1) (sym (name_old m r x n)) (omega arith))
    (cases_eq x m)

-- what an entry was called is not the one that went
pub was : (m r i : ℕ) → 0 < r → r ≤ m → i ≤ m - 1 → (by_name r m i ≤ m) × (by_name r m i ≡ r → ⊥)
was m r i pos lo im = ⊎_elim
    (λ (e : i ≡ r). let q = name_new r m i e in (omega (arith, q), λ z. omega (arith, q, z, e)))
    (λ (n : i ≡ r → ⊥). let q = name_old r m i n in (omega (arith, q), λ z. n (sym q ∙ z)))
    (cases_eq i r)

-- with an entry gone the others are linked
pub gone_linked : {X : Type 0} (gs fs : List (Entry X)) (m r : ℕ) → Half gs m r → 0 < r → r ≤ m → Relocated gs fs m r → Linked fs (m - 1)
gone_linked {X} gs fs m r h pos lo w = (
  omega (arith, h.0, w.size),
  omega (arith, h.1),
  λ i d im lt.
      let j = by_name r m i in
      let jo = was m r i pos lo im in
      let t = h.2 j d jo.0 (omega (arith, jo.0, h.0)) jo.1 in
      let im' : i < m = omega arith in
      let nn = w.nexts d i im' in
      let pp = w.prevs d i im' in
      let nl : next_at fs d i ≤ m - 1 = subst (λ x. x ≤ m - 1) (sym nn) (name_under m r (next_at gs d j) lo t.0 t.5) in
      let pl : prev_at fs d i ≤ m - 1 = subst (λ x. x ≤ m - 1) (sym pp) (name_under m r (prev_at gs d j) lo t.1 t.6) in
      let im'' : i ≡ m → ⊥ = λ q. omega arith in (
        nl,
        pl,
        omega (arith, w.numbers d i im', t.2),
        w.nexts d (prev_at fs d i) (omega arith)
            ∙ ap (λ x. by_name m r (next_at gs d x)) (ap (by_name r m) pp ∙ name_back m r (prev_at gs d j) t.6)
            ∙ ap (by_name m r) t.3 ∙ name_forth m r i im'',
        w.prevs d (next_at fs d i) (omega arith)
            ∙ ap (λ x. by_name m r (prev_at gs d x)) (ap (by_name r m) nn ∙ name_back m r (next_at gs d j) t.5)
            ∙ ap (by_name m r) t.4 ∙ name_forth m r i im'',
      ),
)

-- lists that weigh alike but for one entry differ by that entry
pub sum_change : {X : Type 0} (f : X → ℕ) (us vs : List X) (n : ℕ) (d : X) → length us ≡ length vs → n < length us
    → ((k : ℕ) (d : X) → k < length us → (k ≡ n → ⊥) → f (get_or vs k d) ≡ f (get_or us k d)) → sum_by f vs + f (get_or us n d) ≡ sum_by f us + f (get_or vs n d)
sum_change f [] vs n d same lt off = absurd (omega arith)
sum_change f (u ∷ us) [] n d same lt off = absurd (omega arith)
sum_change f (u ∷ us) (v ∷ vs) zero d same lt off =
    omega (arith, sum_by-cons f u us, sum_by-cons f v vs, sum_alike f vs us (omega arith) (λ k d l. off (suc k) d (omega arith) (λ q. omega arith)))
sum_change f (u ∷ us) (v ∷ vs) (suc n) d same lt off =
    omega (
      arith,
      sum_by-cons f u us,
      sum_by-cons f v vs,
      off 0 u (omega arith) (λ q. omega arith),
      sum_change f us vs n d (omega arith) (omega arith) (λ k d l ne. off (suc k) d (omega arith) (λ q. ne (omega arith))),
    )

-- what is left weighs less by the entry that is gone
pub gone_weighs : {X : Type 0} (es gs fs : List (Entry X)) (m r : ℕ) → Linked es m → 0 < r → r ≤ m → Unlinked es gs r → Relocated gs fs m r
    → (t : X → Bool) (d : Entry X) → weighs t many (in_use es m) ≡ cond (t (height_at es d r)) (number_at es d r) 0 + weighs t many (in_use fs (m - 1))
gone_weighs {X} es gs fs m r l pos lo u w t d =
    let f : Entry X → ℕ = part t many in
    let W = in_use es (m - 1) in
    let V = in_use fs (m - 1) in
    let n₁ = length_used es (m - 1) (omega (arith, l.0)) in
    let n₂ = length_used fs (m - 1) (omega (arith, l.0, u.size, w.size)) in
    let now : (k : ℕ) (e : Entry X) → k < m - 1 → f (get_or V k e) ≡ f (get_or es (by_name r m (1 + k)) e)
    = λ k e lt. ap f (at_used fs (m - 1) k e lt)
    ∙ part_alike t (get_or fs (1 + k) e) (get_or es (by_name r m (1 + k)) e)
    (w.heights e (1 + k) (omega arith) ∙ u.heights e (by_name r m (1 + k)))
    (w.numbers e (1 + k) (omega arith) ∙ u.numbers e (by_name r m (1 + k))) in
    let old : (k : ℕ) (e : Entry X) → k < m - 1 → (1 + k ≡ r → ⊥) → f (get_or V k e) ≡ f (get_or W k e)
    = λ k e lt ne. now k e lt ∙ ap (λ x. f (get_or es x e)) (name_old r m (1 + k) ne) ∙ sym (ap f (at_used es (m - 1) k e lt)) in
    let last : f (get_or (drop 1 es) (m - 1) d) ≡ f (get_or es m d) = ap f (get_or-drop 1 es (m - 1) d ∙ ap (λ x. get_or es x d) (omega arith)) in
    let more : sum_by f (in_use es m) ≡ sum_by f W + f (get_or es m d)
    = ap (λ x. sum_by f (take x (drop 1 es))) (omega arith) ∙ sum_by_more f (drop 1 es) (m - 1) d (omega (arith, length-drop 1 es, l.0)) ∙ ap (λ x. sum_by f W + x) last in
    ⊎_elim
    (λ (e : r ≡ m).
    let same = sum_alike f V W (n₂ ∙ sym n₁) (λ k x lt. old k x (omega arith) (λ q. omega arith)) in
    let here : f (get_or es m d) ≡ f (get_or es r d) = ap (λ x. f (get_or es x d)) (sym e) in
    omega (arith, more, same, here))
    (λ (ne : r ≡ m → ⊥).
    let ch = sum_change f W V (r - 1) d (n₁ ∙ sym n₂) (omega arith) (λ k x lt nk. old k x (omega arith) (λ q. nk (omega arith))) in
    let a : f (get_or W (r - 1) d) ≡ f (get_or es r d) = ap f (by_link es (m - 1) r d pos (omega arith)) in
    let b : f (get_or V (r - 1) d) ≡ f (get_or es m d) = now (r - 1) d (omega arith) ∙ ap (λ x. f (get_or es x d)) (name_new r m (1 + (r - 1)) (omega arith)) in
    omega (arith, more, ch, a, b))
    (cases_eq r m)

-- the entries that are left when r goes out
abbrev pub Rest : ℕ → ℕ → ℕ → Type 0
Rest m r j = (j ≤ m) × (j ≡ r → ⊥)

-- the entries that are left, by their old names
pub named_after : {X : Type 0} (es gs fs : List (Entry X)) (m r : ℕ) → 0 < r → r ≤ m → Unlinked es gs r → Relocated gs fs m r
    → (d : Entry X) → Renamed (height_at es d) (Rest m r) (height_at fs d) (λ j. j ≤ m - 1) (by_name r m)
named_after {X} es gs fs m r pos lo u w d =
    record {
      inside = λ j lj. was m r j pos lo lj;
      end = λ j lj z. name_old r m j (λ q. omega arith) ∙ z;
      ends = λ j lj z. ⊎_elim
          (λ (e : j ≡ r). absurd (omega (arith, name_new r m j e, z)))
          (λ (n : j ≡ r → ⊥). sym (name_old r m j n) ∙ z)
          (cases_eq j r);
      one = λ i j li lj q. sym (name_forth m r i (λ z. omega arith)) ∙ ap (by_name m r) q ∙ name_forth m r j (λ z. omega arith);
      same = λ j lj. w.heights d j (omega arith) ∙ u.heights d (by_name r m j);
    }

-- with an entry gone the others are in order
pub gone_order : {X : Type 0} {le : X → X → Bool} (o : Preorder le)
    (es gs fs : List (Entry X)) (m r : ℕ) → Linked es m → 0 < r → r ≤ m → Unlinked es gs r → Half gs m r → Relocated gs fs m r → InOrder le es m → InOrder le fs (m - 1)
gone_order {X} {le} o es gs fs m r l pos lo u h w s d =
    let tr = l.2 r d lo (omega (arith, l.0)) in
    let lk = gone_linked gs fs m r h pos lo w in
    let half = chain_unlink o (height_at es d) (next_at es d) (λ j. j ≤ m) (next_at gs d) (Rest m r) (s d) r (prev_at es d r) pos lo tr.1 tr.3
    (λ j q. q.0) (λ j q. q.1) (u.next_a d) (λ j q ne. u.nexts d j ne) in
    chain_rename le (height_at es d) (next_at gs d) (Rest m r) (height_at fs d) (next_at fs d) (λ j. j ≤ m - 1) (by_name r m)
    (named_after es gs fs m r pos lo u w d)
    (λ j lj. (lk.2 j d lj (omega (arith, lk.0))).0)
    (λ j lj.
    let jo = was m r j pos lo lj in
    ap (by_name r m) (w.nexts d j (omega arith)) ∙ name_back m r (next_at gs d (by_name r m j)) (h.2 (by_name r m j) d jo.0 (omega (arith, jo.0, h.0)) jo.1).5)
    half

-- no entry in order is its own neighbour
pub no_loop : {X : Type 0} {le : X → X → Bool} (o : Preorder le)
    (H : ℕ → X) (N : ℕ → ℕ) (L : ℕ → Type 0) → Chain le H N L → (r a : ℕ) → 0 < r → L r → N a ≡ r → a ≡ r → ⊥
no_loop {X} {le} o H N L c r a pos lr na e =
    let nr : N r ≡ r = ap N (sym e) ∙ na in
    let z : r ≡ 0 → ⊥ = λ q. omega arith in
    both_ways (onwards le H r (H r))
    (subst (λ k. onwards le H k (H r) ≡ not (not_past le H r (H r))) nr (c.up r lr r pos lr) ∙ ap not (np_at le H r (H r) z ∙ reflexive o (H r)))
    (ow_at le H r (H r) z ∙ reflexive o (H r))

-- where heights stand with an entry gone
pub gone_fingers : {X : Type 0} {le : X → X → Bool} (o : Preorder le)
    (es gs fs : List (Entry X)) (m r : ℕ) → Linked es m → 0 < r → r ≤ m → Unlinked es gs r → Relocated gs fs m r → InOrder le es m
    → (d : Entry X) (p : X) (i : ℕ) → i ≤ m → StandsAt le es m p i → StandsAt le fs (m - 1) p (left_by es d m r i)
gone_fingers {X} {le} o es gs fs m r l pos lo u w s d p i im at d' =
    let rl : r < length es = omega (arith, l.0) in
    let tr = l.2 r d' lo rl in
    let a = prev_at es d' r in
    let ae : prev_at es d r ≡ a = ap (λ (x : Entry X). x.prev) (get_or_default es r d d' rl) in
    let go : (x : ℕ) → x ≤ m → (x ≡ r → ⊥) → Stands le (height_at es d') (Rest m r) p x → Stands le (height_at fs d') (λ j. j ≤ m - 1) p (by_name m r x)
    = λ x xm xr st.
    stands_rename le (height_at es d') (Rest m r) (height_at fs d') (λ j. j ≤ m - 1) (by_name r m) (named_after es gs fs m r pos lo u w d') p (by_name m r x) (name_under m r x lo xm xr)
    (subst (λ y. Stands le (height_at es d') (Rest m r) p y) (sym (name_back m r x xr)) st) in
    ⊎_elim
    (λ (e : i ≡ r).
    let to : a ≡ cond (eqb i r) (prev_at es d r) i = sym (ap (λ b. cond b (prev_at es d r) i) (eq-eqb i r e) ∙ ae) in
    subst (λ y. Stands le (height_at fs d') (λ j. j ≤ m - 1) p (by_name m r y)) to
    (go a tr.1 (no_loop o (height_at es d') (next_at es d') (λ j. j ≤ m) (s d') r a pos lo tr.3)
    (stands_out o (height_at es d') (next_at es d') (λ j. j ≤ m) (Rest m r) (s d') r a pos lo tr.1 tr.3 (λ j q. q.0) (λ j q. q.1) p
    (subst (λ y. Stands le (height_at es d') (λ j. j ≤ m) p y) e (at d')))))
    (λ (ne : i ≡ r → ⊥).
    let to : i ≡ cond (eqb i r) (prev_at es d r) i = sym (ap (λ b. cond b (prev_at es d r) i) (ne_eqb i r ne)) in
    subst (λ y. Stands le (height_at fs d') (λ j. j ≤ m - 1) p (by_name m r y)) to
    (go i im ne (λ j pj q. at d' j pj q.0)))
    (cases_eq i r)

-- what an entry that goes does
pub entry_gone : {X : Type 0} {le : X → X → Bool} (o : Preorder le)
    (es gs fs : List (Entry X)) (m r : ℕ) → Linked es m → 0 < r → r ≤ m → Unlinked es gs r → Relocated gs fs m r → EntryGone le es fs m r
entry_gone {X} {le} o es gs fs m r l pos lo u w =
    let h = unlinked_half es gs m r l pos lo u in
    record {
      size = w.size ∙ u.size;
      linked = gone_linked gs fs m r h pos lo w;
      positive = λ ps i d p im.
          let jo = was m r i pos lo im in
          let n = named_after es gs fs m r pos lo u w d in
          let j = by_name r m i in
          let jp : 0 < j = ⊎_elim (λ (z : j ≡ 0). absurd (omega (arith, n.ends i im z))) (λ (z : j ≡ 0 → ⊥). omega arith) (cases_eq j 0) in
          omega (arith, w.numbers d i (omega arith), u.numbers d j, ps j d jp jo.0);
      held = λ t d. omega (arith, gone_weighs es gs fs m r l pos lo u w t d, tally_heights t (in_use es m), tally_heights t (in_use fs (m - 1)));
      order = gone_order o es gs fs m r l pos lo u h w;
      fingers = gone_fingers o es gs fs m r l pos lo u w;
    }
