-- Where heights stand when an entry comes in, goes out, or gets another name.
use Rattle.std.proofs.Common.{◌≡◌, ℕ, ◌<◌, Bool, true, false, cond, not, eqb, ◌⊎◌, sym, ap, ◌∙◌, subst, ⊎_elim, arith}
use Rattle.std.proofs.lemmas.Bool.{both_ways, cases_eq, eq-eqb, ne_eqb, not-false, true_from_ne_false}
use Rattle.finger_list.specs.Linking.{not_past, onwards, Neighbours, Chain, Stands}
use Rattle.heights.specs.Order.{Preorder}
use Rattle.counters.proofs.Preorders.{equal_tests, reflexive, other_way}
use Rattle.finger_list.proofs.Chains.{strict, np_at, ow_at, np_link, stands_once}

-- a finger that stands elsewhere, or lower than h, stays
pub stands_stay : {X : Type 0} {le : X → X → Bool} (o : Preorder le)
    (H : ℕ → X) (N : ℕ → ℕ) (L : ℕ → Type 0) (H' : ℕ → X) (L' : ℕ → Type 0)
    → Chain le H N L → (h : X) (a n : ℕ) → L a → Stands le H L h a → ((a ≡ 0 → ⊥) → le h (H a) ≡ false)
    → ((j : ℕ) → L' j → (L j) ⊎ (j ≡ n)) → H' n ≡ h → ((j : ℕ) → L j → H' j ≡ H j)
    → (p : X) (i : ℕ) → L i → Stands le H L p i → (i ≡ a → le h p ≡ false) → Stands le H' L' p i
stands_stay {X} {le} o H N L H' L' c h a n la sa new more hn hs p i li si off j pos l =
    let np : (x : X) → not_past le H' i x ≡ not_past le H i x = λ x. ap (λ y. cond (eqb i 0) false (le x y)) (hs i li) in
    ⊎_elim
    (λ (lj : L j). ap (λ x. le x p) (hs j lj) ∙ si j pos lj ∙ sym (np (H j)) ∙ ap (not_past le H' i) (sym (hs j lj)))
    (λ (e : j ≡ n).
    let hj : H' j ≡ h = ap H' e ∙ hn in
    let at : le h p ≡ not_past le H i h
    = equal_tests _ _
    (λ q. true_from_ne_false _ (λ out.
    let s₂ : Stands le H L h i
    = λ m pm lm. equal_tests _ _
    (λ y. sym (si m pm lm) ∙ o.transitive (H m) h p y q)
    (λ y. let nz = np_link le H i (H m) y in
    o.transitive (H m) (H i) h (sym (np_at le H i (H m) nz) ∙ y) (other_way o h (H i) (sym (np_at le H i h nz) ∙ out))) in
    both_ways _ (off (stands_once o H N L c h i a li la s₂ sa)) q))
    (λ q. let nz = np_link le H i h q in
    o.transitive h (H i) p (sym (np_at le H i h nz) ∙ q) (si i (omega arith) li ∙ np_at le H i (H i) nz ∙ reflexive o (H i))) in
    ap (λ x. le x p) hj ∙ at ∙ sym (np h) ∙ ap (not_past le H' i) (sym hj))
    (more j l)

-- a finger that stands there, and not lower than h, goes to the new entry
pub stands_go : {X : Type 0} {le : X → X → Bool} (o : Preorder le)
    (H : ℕ → X) (L : ℕ → Type 0) (H' : ℕ → X) (L' : ℕ → Type 0)
    → (h : X) (a n : ℕ) → 0 < n → Stands le H L h a
    → ((j : ℕ) → L' j → (L j) ⊎ (j ≡ n)) → H' n ≡ h → ((j : ℕ) → L j → H' j ≡ H j)
    → (p : X) → Stands le H L p a → le h p ≡ true → Stands le H' L' p n
stands_go {X} {le} o H L H' L' h a n npos sa more hn hs p sp q j pos l =
    let npn : (x : X) → not_past le H' n x ≡ le x h = λ x. np_at le H' n x (λ z. omega arith) ∙ ap (λ y. le x y) hn in
    ⊎_elim
    (λ (lj : L j). ap (λ x. le x p) (hs j lj) ∙ sp j pos lj ∙ sym (sa j pos lj) ∙ sym (npn (H j)) ∙ ap (not_past le H' n) (sym (hs j lj)))
    (λ (e : j ≡ n).
    let hj : H' j ≡ h = ap H' e ∙ hn in
    ap (λ x. le x p) hj ∙ q ∙ sym (npn h ∙ reflexive o h) ∙ ap (not_past le H' n) (sym hj))
    (more j l)

-- without r, what is not past a is not past r
out_same : {X : Type 0} {le : X → X → Bool} (o : Preorder le)
    (H : ℕ → X) (N : ℕ → ℕ) (L : ℕ → Type 0) → Chain le H N L → (r a : ℕ) → 0 < r → L r → Neighbours le H L a r
    → (j : ℕ) → 0 < j → L j → (j ≡ r → ⊥) → not_past le H a (H j) ≡ not_past le H r (H j)
out_same {le = le} o H N L c r a pos lr cut j pj lj ne =
    let rz : r ≡ 0 → ⊥ = λ z. omega arith in
    let s : le (H r) (H j) ≡ not (le (H j) (H r)) = strict o (H r) (H j) (λ q₁ q₂. ne (c.apart j r pj lj pos lr q₂ q₁)) in
    let e : not (le (H j) (H r)) ≡ not (not_past le H a (H j)) = sym s ∙ sym (ow_at le H r (H j) rz) ∙ cut j pj lj in
    let flip : (x y : Bool) → not x ≡ not y → y ≡ x
    = λ x y q. equal_tests _ _ (λ t. not-false _ (q ∙ ap not t)) (λ t. not-false _ (sym q ∙ ap not t)) in
    flip (le (H j) (H r)) (not_past le H a (H j)) e ∙ sym (np_at le H r (H j) rz)

-- without r, whose neighbours are linked to each other, the list stays in order
pub chain_unlink : {X : Type 0} {le : X → X → Bool} (o : Preorder le)
    (H : ℕ → X) (N : ℕ → ℕ) (L : ℕ → Type 0) (N' : ℕ → ℕ) (L' : ℕ → Type 0)
    → Chain le H N L → (r a : ℕ) → 0 < r → L r → L a → N a ≡ r
    → ((j : ℕ) → L' j → L j) → ((j : ℕ) → L' j → j ≡ r → ⊥)
    → N' a ≡ N r → ((j : ℕ) → L' j → (j ≡ a → ⊥) → N' j ≡ N j)
    → Chain le H N' L'
chain_unlink {X} {le} o H N L N' L' c r a pos lr la nar sub off na ns =
    let cut : Neighbours le H L a r = subst (λ m. Neighbours le H L a m) nar (c.up a la) in
    record {
      up = λ i l j pj lj. ⊎_elim
          (λ (e : i ≡ a).
          ap (λ m. onwards le H m (H j)) (ap N' e ∙ na) ∙ c.up r lr j pj (sub j lj)
          ∙ ap not (sym (out_same o H N L c r a pos lr cut j pj (sub j lj) (off j lj)) ∙ ap (λ m. not_past le H m (H j)) (sym e)))
          (λ (ne : i ≡ a → ⊥). ap (λ m. onwards le H m (H j)) (ns i l ne) ∙ c.up i (sub i l) j pj (sub j lj))
          (cases_eq i a);
      apart = λ i j pi li pj lj. c.apart i j pi (sub i li) pj (sub j lj);
    }

-- without r, what stood at r stands at the entry below it
pub stands_out : {X : Type 0} {le : X → X → Bool} (o : Preorder le)
    (H : ℕ → X) (N : ℕ → ℕ) (L : ℕ → Type 0) (L' : ℕ → Type 0)
    → Chain le H N L → (r a : ℕ) → 0 < r → L r → L a → N a ≡ r
    → ((j : ℕ) → L' j → L j) → ((j : ℕ) → L' j → j ≡ r → ⊥)
    → (p : X) → Stands le H L p r → Stands le H L' p a
stands_out {le = le} o H N L L' c r a pos lr la nar sub off p s j pj lj =
    s j pj (sub j lj) ∙ sym (out_same o H N L c r a pos lr (subst (λ m. Neighbours le H L a m) nar (c.up a la)) j pj (sub j lj) (off j lj))

-- two links that are the end together
zero_same : (m n : ℕ) → (m ≡ 0 → n ≡ 0) → (n ≡ 0 → m ≡ 0) → eqb m 0 ≡ eqb n 0
zero_same m n f g = ⊎_elim (λ (z : m ≡ 0). eq-eqb m 0 z ∙ sym (eq-eqb n 0 (f z))) (λ (z : m ≡ 0 → ⊥). ne_eqb m 0 z ∙ sym (ne_eqb n 0 (λ q. z (g q)))) (cases_eq m 0)

-- the entry j of the list is what was the entry τ j of another
pub record Renamed {X : Type 0} (H : ℕ → X) (L : ℕ → Type 0) (H' : ℕ → X) (L' : ℕ → Type 0) (τ : ℕ → ℕ) : Type 0 where
  pub inside : (j : ℕ) → L' j → L (τ j)
  pub end : (j : ℕ) → L' j → j ≡ 0 → τ j ≡ 0
  pub ends : (j : ℕ) → L' j → τ j ≡ 0 → j ≡ 0
  pub one : (i j : ℕ) → L' i → L' j → τ i ≡ τ j → i ≡ j
  pub same : (j : ℕ) → L' j → H' j ≡ H (τ j)

-- not past an entry, by its old name
np_named : {X : Type 0} (le : X → X → Bool) (H : ℕ → X) (L : ℕ → Type 0) (H' : ℕ → X) (L' : ℕ → Type 0) (τ : ℕ → ℕ) → Renamed H L H' L' τ
    → (i : ℕ) (x : X) → L' i → not_past le H' i x ≡ not_past le H (τ i) x
np_named le H L H' L' τ n i x l =
    ap (λ b. cond b false (le x (H' i))) (zero_same i (τ i) (n.end i l) (n.ends i l)) ∙ ap (λ y. cond (eqb (τ i) 0) false (le x y)) (n.same i l)

-- from an entry on, by its old name
ow_named : {X : Type 0} (le : X → X → Bool) (H : ℕ → X) (L : ℕ → Type 0) (H' : ℕ → X) (L' : ℕ → Type 0) (τ : ℕ → ℕ) → Renamed H L H' L' τ
    → (i : ℕ) (x : X) → L' i → onwards le H' i x ≡ onwards le H (τ i) x
ow_named le H L H' L' τ n i x l =
    ap (λ b. cond b false (le (H' i) x)) (zero_same i (τ i) (n.end i l) (n.ends i l)) ∙ ap (λ y. cond (eqb (τ i) 0) false (le y x)) (n.same i l)

-- an entry is not the end by its old name either
named_pos : {X : Type 0} (H : ℕ → X) (L : ℕ → Type 0) (H' : ℕ → X) (L' : ℕ → Type 0) (τ : ℕ → ℕ) → Renamed H L H' L' τ
    → (j : ℕ) → 0 < j → L' j → 0 < τ j
named_pos H L H' L' τ n j pos l = ⊎_elim (λ (z : τ j ≡ 0). absurd (omega (arith, n.ends j l z))) (λ (z : τ j ≡ 0 → ⊥). omega arith) (cases_eq (τ j) 0)

-- under other names the list stays in order
pub chain_rename : {X : Type 0} (le : X → X → Bool) (H : ℕ → X) (N : ℕ → ℕ) (L : ℕ → Type 0) (H' : ℕ → X) (N' : ℕ → ℕ) (L' : ℕ → Type 0) (τ : ℕ → ℕ)
    → Renamed H L H' L' τ → ((j : ℕ) → L' j → L' (N' j)) → ((j : ℕ) → L' j → τ (N' j) ≡ N (τ j))
    → Chain le H N L → Chain le H' N' L'
chain_rename le H N L H' N' L' τ n ins nexts c =
    record {
      up = λ i l j pj lj.
          ow_named le H L H' L' τ n (N' i) (H' j) (ins i l) ∙ ap (λ x. onwards le H (τ (N' i)) x) (n.same j lj)
          ∙ ap (λ m. onwards le H m (H (τ j))) (nexts i l) ∙ c.up (τ i) (n.inside i l) (τ j) (named_pos H L H' L' τ n j pj lj) (n.inside j lj)
          ∙ ap not (sym (np_named le H L H' L' τ n i (H' j) l ∙ ap (λ x. not_past le H (τ i) x) (n.same j lj)));
      apart = λ i j pi li pj lj q₁ q₂. n.one i j li lj
          (c.apart (τ i) (τ j) (named_pos H L H' L' τ n i pi li) (n.inside i li) (named_pos H L H' L' τ n j pj lj) (n.inside j lj)
          (sym (ap (λ u. le u (H' j)) (n.same i li) ∙ ap (λ u. le (H (τ i)) u) (n.same j lj)) ∙ q₁)
          (sym (ap (λ u. le u (H' i)) (n.same j lj) ∙ ap (λ u. le (H (τ j)) u) (n.same i li)) ∙ q₂));
    }

-- under other names a height stands where it stood
pub stands_rename : {X : Type 0} (le : X → X → Bool) (H : ℕ → X) (L : ℕ → Type 0) (H' : ℕ → X) (L' : ℕ → Type 0) (τ : ℕ → ℕ)
    → Renamed H L H' L' τ → (p : X) (i : ℕ) → L' i → Stands le H L p (τ i) → Stands le H' L' p i
stands_rename le H L H' L' τ n p i li s j pj lj =
    ap (λ x. le x p) (n.same j lj) ∙ s (τ j) (named_pos H L H' L' τ n j pj lj) (n.inside j lj)
    ∙ sym (np_named le H L H' L' τ n i (H' j) li ∙ ap (λ x. not_past le H (τ i) x) (n.same j lj))
