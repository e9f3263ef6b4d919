-- Linked lists in order, over plain functions of the entries: where a height stands, and a height that comes in.
use Rattle.std.proofs.Common.{◌≡◌, ℕ, ◌<◌, Bool, true, false, cond, not, eqb, ◌⊎◌, sym, ap, ◌∙◌, subst, ⊎_elim, arith}
use Rattle.std.proofs.lemmas.Bool.{both_ways, cases_eq, eq-eqb, ne_eqb, not-true, true_from_ne_false, false_from_ne_true}
use Rattle.finger_list.specs.Linking.{not_past, onwards, Neighbours, Chain, Stands}
use Rattle.heights.specs.Order.{Preorder}
use Rattle.counters.proofs.Preorders.{equal_tests, reflexive, other_way}

-- of two heights that are not level, one way round or the other
pub strict : {X : Type 0} {le : X → X → Bool} (o : Preorder le) (x y : X)
    → (le x y ≡ true → le y x ≡ true → ⊥) → le x y ≡ not (le y x)
strict {le = le} o x y off =
    equal_tests _ _ (λ q. ap not (false_from_ne_true (le y x) (off q))) (λ q. other_way o y x (not-true _ q))

-- nothing is not past the end
pub np_end : {X : Type 0} (le : X → X → Bool) (H : ℕ → X) (i : ℕ) (x : X) → i ≡ 0 → not_past le H i x ≡ false
np_end le H i x z = ap (λ b. cond b false (le x (H i))) (eq-eqb i 0 z)

-- not past an entry: not higher than it
pub np_at : {X : Type 0} (le : X → X → Bool) (H : ℕ → X) (i : ℕ) (x : X) → (i ≡ 0 → ⊥) → not_past le H i x ≡ le x (H i)
np_at le H i x z = ap (λ b. cond b false (le x (H i))) (ne_eqb i 0 z)

-- nothing is from the end on
pub ow_end : {X : Type 0} (le : X → X → Bool) (H : ℕ → X) (i : ℕ) (x : X) → i ≡ 0 → onwards le H i x ≡ false
ow_end le H i x z = ap (λ b. cond b false (le (H i) x)) (eq-eqb i 0 z)

-- from an entry on: not lower than it
pub ow_at : {X : Type 0} (le : X → X → Bool) (H : ℕ → X) (i : ℕ) (x : X) → (i ≡ 0 → ⊥) → onwards le H i x ≡ le (H i) x
ow_at le H i x z = ap (λ b. cond b false (le (H i) x)) (ne_eqb i 0 z)

-- what something is not past is not the end
pub np_link : {X : Type 0} (le : X → X → Bool) (H : ℕ → X) (i : ℕ) (x : X) → not_past le H i x ≡ true → i ≡ 0 → ⊥
np_link le H i x q z = both_ways _ (np_end le H i x z) q

-- what something lies from on is not the end
pub ow_link : {X : Type 0} (le : X → X → Bool) (H : ℕ → X) (i : ℕ) (x : X) → onwards le H i x ≡ true → i ≡ 0 → ⊥
ow_link le H i x q z = both_ways _ (ow_end le H i x z) q

-- where a height stands between two neighbours
pub stands_up : {X : Type 0} {le : X → X → Bool} (o : Preorder le)
    (H : ℕ → X) (L : ℕ → Type 0) (i k : ℕ) (h : X) → ((i ≡ 0 → ⊥) → le (H i) h ≡ true)
    → Neighbours le H L i k → onwards le H k h ≡ false → Stands le H L h i
stands_up {le = le} o H L i k h under cut over j pos l =
    equal_tests _ _
    (λ q. true_from_ne_false _ (λ off.
    let on : onwards le H k (H j) ≡ true = cut j pos l ∙ ap not off in
    let nz = ow_link le H k (H j) on in
    both_ways _ over (ow_at le H k h nz ∙ o.transitive _ (H j) h (sym (ow_at le H k (H j) nz) ∙ on) q)))
    (λ q.
    let nz = np_link le H i (H j) q in
    o.transitive (H j) _ h (sym (np_at le H i (H j) nz) ∙ q) (under nz))

-- a height stands at one link only
pub stands_once : {X : Type 0} {le : X → X → Bool} (o : Preorder le)
    (H : ℕ → X) (N : ℕ → ℕ) (L : ℕ → Type 0) → Chain le H N L → (h : X) (i a : ℕ) → L i → L a → Stands le H L h i → Stands le H L h a → i ≡ a
stands_once {X} {le} o H N L c h i a li la si sa =
    let own : (x : ℕ) → (x ≡ 0 → ⊥) → not_past le H x (H x) ≡ true = λ x nz. np_at le H x (H x) nz ∙ reflexive o (H x) in
    let other : (x y : ℕ) → L x → Stands le H L h x → Stands le H L h y → (x ≡ 0 → ⊥) → not_past le H y (H x) ≡ true
    = λ x y l sx sy nz. sym (sy x (omega arith) l) ∙ sx x (omega arith) l ∙ own x nz in
    ⊎_elim
    (λ (zi : i ≡ 0). ⊎_elim
    (λ (za : a ≡ 0). zi ∙ sym za)
    (λ (na : a ≡ 0 → ⊥). absurd (np_link le H i (H a) (other a i la sa si na) zi))
    (cases_eq a 0))
    (λ (ni : i ≡ 0 → ⊥).
    let q : not_past le H a (H i) ≡ true = other i a li si sa ni in
    let na : a ≡ 0 → ⊥ = np_link le H a (H i) q in
    c.apart i a (omega arith) li (omega arith) la (sym (np_at le H a (H i) na) ∙ q) (sym (np_at le H i (H a) ni) ∙ other a i la sa si na))
    (cases_eq i 0)

-- neighbours elsewhere stay neighbours when h comes in behind a
pub meet_new : {X : Type 0} {le : X → X → Bool} (o : Preorder le)
    (H : ℕ → X) (N : ℕ → ℕ) (L : ℕ → Type 0) → Chain le H N L → (h : X) (a i m : ℕ) → L a → L i → (i ≡ a → ⊥)
    → Stands le H L h a → Neighbours le H L i m → onwards le H m h ≡ not (not_past le H i h)
meet_new {le = le} o H N L c h a i m la li ne sa cut =
    equal_tests _ _
    (λ on. ap not (false_from_ne_true (not_past le H i h) (λ q.
    let nm = ow_link le H m h on in
    let ni = np_link le H i h q in
    let up : onwards le H m (H i) ≡ true = ow_at le H m (H i) nm ∙ o.transitive _ h _ (sym (ow_at le H m h nm) ∙ on) (sym (np_at le H i h ni) ∙ q) in
    both_ways _ (cut i (omega arith) li ∙ ap not (np_at le H i (H i) ni ∙ reflexive o (H i))) up)))
    (λ off. true_from_ne_false (onwards le H m h) (λ q.
    ne (stands_once o H N L c h i a li la
    (stands_up o H L i m h (λ ni. other_way o h (H i) (sym (np_at le H i h ni) ∙ not-true _ off)) cut q) sa)))

-- a height that stands at a comes in above it, as the new entry n, and the list stays in order
pub chain_insert : {X : Type 0} {le : X → X → Bool} (o : Preorder le)
    (H : ℕ → X) (N : ℕ → ℕ) (L : ℕ → Type 0) (H' : ℕ → X) (N' : ℕ → ℕ) (L' : ℕ → Type 0)
    → Chain le H N L → (h : X) (a n : ℕ) → L a → 0 < n
    → ((i : ℕ) → L i → L (N i))
    → Stands le H L h a → ((a ≡ 0 → ⊥) → le h (H a) ≡ false)
    → ((j : ℕ) → L' j → (L j) ⊎ (j ≡ n))
    → H' n ≡ h → ((j : ℕ) → L j → H' j ≡ H j)
    → N' a ≡ n → N' n ≡ N a → ((j : ℕ) → L j → (j ≡ a → ⊥) → N' j ≡ N j)
    → Chain le H' N' L'
chain_insert {X} {le} o H N L H' N' L' c h a n la pos inside sa new more hn hs na nn ns =
    let k = N a in
    let lk : L k = inside a la in
    let free : (j : ℕ) → 0 < j → L j → le h (H j) ≡ true → le (H j) h ≡ true → ⊥
    = λ j p l q₁ q₂.
    let on : not_past le H a (H j) ≡ true = sym (sa j p l) ∙ q₂ in
    let nz = np_link le H a (H j) on in
    both_ways _ (new nz) (o.transitive h (H j) (H a) q₁ (sym (np_at le H a (H j) nz) ∙ on)) in
    -- each height of the new chain is one of the old, or h
    let each : (Q : X → Type 0) → ((j : ℕ) → 0 < j → L j → Q (H j)) → Q h → (j : ℕ) → 0 < j → L' j → Q (H' j)
    = λ Q old at j p l. ⊎_elim
    (λ (x : L j). subst Q (sym (hs j x)) (old j p x))
    (λ (e : j ≡ n). subst Q (sym (ap H' e ∙ hn)) at)
    (more j l) in
    let ow : (m : ℕ) (x : X) → L m → onwards le H' m x ≡ onwards le H m x = λ m x l. ap (λ y. cond (eqb m 0) false (le y x)) (hs m l) in
    let np : (i : ℕ) (x : X) → L i → not_past le H' i x ≡ not_past le H i x = λ i x l. ap (λ y. cond (eqb i 0) false (le x y)) (hs i l) in
    let nz : n ≡ 0 → ⊥ = λ z. omega arith in
    let own : (x : X) → onwards le H' n x ≡ le h x = λ x. ow_at le H' n x nz ∙ ap (λ y. le y x) hn in
    let npn : (x : X) → not_past le H' n x ≡ le x h = λ x. np_at le H' n x nz ∙ ap (λ y. le x y) hn in
    let old : (i m : ℕ) → L i → L m → (i ≡ a → ⊥) → Neighbours le H L i m → Neighbours le H' L' i m
    = λ i m li lm ne cut.
    each (λ x. onwards le H' m x ≡ not (not_past le H' i x))
    (λ j p l. ow m (H j) lm ∙ cut j p l ∙ sym (ap not (np i (H j) li)))
    (ow m h lm ∙ meet_new o H N L c h a i m la li ne sa cut ∙ sym (ap not (np i h li))) in
    let meet-an : Neighbours le H' L' a n
    = each (λ x. onwards le H' n x ≡ not (not_past le H' a x))
    (λ j p l. own (H j) ∙ strict o h (H j) (free j p l) ∙ ap not (sa j p l ∙ sym (np a (H j) la)))
    (own h ∙ reflexive o h ∙ sym (ap not (np a h la ∙ false_from_ne_true (not_past le H a h) (λ q. let x = np_link le H a h q in both_ways _ (new x) (sym (np_at le H a h x) ∙ q))))) in
    let meet-nk : Neighbours le H' L' n k
    = each (λ x. onwards le H' k x ≡ not (not_past le H' n x))
    (λ j p l. ow k (H j) lk ∙ c.up a la j p l ∙ sym (ap not (npn (H j) ∙ sa j p l)))
    (ow k h lk
    ∙ false_from_ne_true (onwards le H k h) (λ q.
    let kz = ow_link le H k h q in
    let on : not_past le H a (H k) ≡ true = sym (sa k (omega arith) lk) ∙ sym (ow_at le H k h kz) ∙ q in
    both_ways _ (c.up a la k (omega arith) lk ∙ ap not on) (ow_at le H k (H k) kz ∙ reflexive o (H k)))
    ∙ sym (ap not (npn h ∙ reflexive o h))) in
    record {
      up = λ i l. ⊎_elim
          (λ (li : L i). ⊎_elim
          (λ (e : i ≡ a). subst (λ m. Neighbours le H' L' i m) (sym (ap N' e ∙ na)) (subst (λ m. Neighbours le H' L' m n) (sym e) meet-an))
          (λ (ne : i ≡ a → ⊥). subst (λ m. Neighbours le H' L' i m) (sym (ns i li ne)) (old i (N i) li (inside i li) ne (c.up i li)))
          (cases_eq i a))
          (λ (e : i ≡ n). subst (λ m. Neighbours le H' L' m (N' m)) (sym e) (subst (λ m. Neighbours le H' L' n m) (sym nn) meet-nk))
          (more i l);
      apart = λ i j pi li pj lj q₁ q₂. ⊎_elim
          (λ (x : L i). ⊎_elim
          (λ (y : L j). c.apart i j pi x pj y (sym (ap (λ u. le u (H' j)) (hs i x) ∙ ap (λ u. le (H i) u) (hs j y)) ∙ q₁) (sym (ap (λ u. le u (H' i)) (hs j y) ∙ ap (λ u. le (H j) u) (hs i x)) ∙ q₂))
          (λ (f : j ≡ n).
          absurd (free i pi x (sym (ap (λ u. le u (H' i)) (ap H' f ∙ hn) ∙ ap (λ u. le h u) (hs i x)) ∙ q₂) (sym (ap (λ u. le u (H' j)) (hs i x) ∙ ap (λ u. le (H i) u) (ap H' f ∙ hn)) ∙ q₁)))
          (more j lj))
          (λ (e : i ≡ n). ⊎_elim
          (λ (y : L j).
          absurd (free j pj y (sym (ap (λ u. le u (H' j)) (ap H' e ∙ hn) ∙ ap (λ u. le h u) (hs j y)) ∙ q₁) (sym (ap (λ u. le u (H' i)) (hs j y) ∙ ap (λ u. le (H j) u) (ap H' e ∙ hn)) ∙ q₂)))
          (λ (f : j ≡ n). e ∙ sym f)
          (more j lj))
          (more i li);
    }
