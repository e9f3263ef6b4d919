-- One height more among the used entries.
use Rattle.std.proofs.Common.{◌≡◌, ℕ, ◌+◌, ◌-◌, ◌<◌, ◌≤◌, Bool, true, false, cond, ◌⊎◌, List, ◌∷◌, length, get_or, take, drop, set, sym, refl, ap, ◌∙◌, subst, ⊎_elim, arith}
use Rattle.std.specs.List.{insert}
use lib.Seq.{take-set-lt}
use Rattle.std.proofs.lemmas.List.{length-set, length-take-le, get_or-set_same, get_or-set_other, get_or-take, get_or_default}
use Rattle.std.proofs.lemmas.List.Elements.{All-set, All-append, All-cons, All-take, All-drop}
use Rattle.std.proofs.lemmas.List.Edits.{length-insert, get_or-insert_below, get_or-insert_at, get_or-insert_above}
use Rattle.std.proofs.lemmas.List.Sums.{sum_by-set, sum_by-insert}
use Rattle.std.proofs.lemmas.Bool.{cases_eq, cases_order}
use Rattle.heights.specs.Order.{Preorder}
use Rattle.counters.proofs.Preorders.{level_parts}
use Rattle.shift_array.specs.declared.entry.Entry.{Entry}
use Rattle.shift_array.specs.Entries.{Positive, Climbing}
use Rattle.shift_array.specs.Places.{Stands, Belongs}
use Rattle.shift_array.specs.Changes.{Grown}
use Rattle.shift_array.proofs.Weights.{weight, number, tally_heights}
use Rattle.shift_array.proofs.Ordered.{higher_from}
use Rattle.shift_array.proofs.Spread.{steps_new, steps_held}

-- ---- an entry with another number

-- an entry with another number
abbrev pub numbered : {X : Type 0} → Entry X → ℕ → Entry X
numbered e n = record { height = e.height; number = n }

-- the used entries after one of them got another number
pub used_numbered : {X : Type 0} (es : List (Entry X)) (used at n : ℕ) (d : Entry X) → at < used
    → take used (set es at (record { height = (get_or es at d).height; number = n })) ≡ set (take used es) at (numbered (get_or (take used es) at d) n)
used_numbered es used at n d lt =
    take-set-lt used es at (numbered (get_or es at d) n) lt
    ∙ ap (λ e. set (take used es) at (numbered e n)) (sym (get_or-take used es at d lt))

same_height : {X : Type 0} (us : List (Entry X)) (at n : ℕ) (x : Entry X) → at < length us
    → (k : ℕ) (d : Entry X) → (get_or (set us at (numbered (get_or us at x) n)) k d).height ≡ (get_or us k d).height
same_height {X} us at n x lt k d =
    let y = numbered (get_or us at x) n in
    ⊎_elim
    (λ (q : k ≡ at).
    let P : ℕ → Type 0 = λ m. (get_or (set us at y) m d).height ≡ (get_or us m d).height in
    subst P (sym q) (ap (λ e. e.height) (get_or-set_same us at y d lt) ∙ ap (λ e. e.height) (get_or_default us at x d lt)))
    (λ (q : k ≡ at → ⊥). ap (λ e. e.height) (get_or-set_other us at k y d q))
    (cases_eq k at)

-- entries climb whatever their numbers
pub climbing_numbered : {X : Type 0} (le : X → X → Bool) (us : List (Entry X)) (at n : ℕ) (x : Entry X)
    → at < length us → Climbing le us → Climbing le (set us at (numbered (get_or us at x) n))
climbing_numbered le us at n x lt cl i j d l1 l2 =
    ap (λ a. le a (get_or (set us at (numbered (get_or us at x) n)) i d).height) (same_height us at n x lt j d)
    ∙ ap (λ a. le (get_or us j d).height a) (same_height us at n x lt i d)
    ∙ cl i j d l1 (omega (arith, length-set us at (numbered (get_or us at x) n)))

-- numbers stay above 0 if the new one is
pub positive_numbered : {X : Type 0} (us : List (Entry X)) (at n : ℕ) (x : Entry X)
    → 0 < n → Positive us → Positive (set us at (numbered x n))
positive_numbered us at n x some pos = All-set (λ e. 0 < e.number) us at (numbered x n) some pos

one_more : (b : Bool) (n : ℕ) → cond b (n + 1) 0 ≡ cond b 1 0 + cond b n 0
one_more b n = elim b as (λ v. cond v (n + 1) 0 ≡ cond v 1 0 + cond v n 0) [ true ↦ omega arith | false ↦ refl ]

-- a level height more: the entry's number grows by one
pub grown_number : {X : Type 0} (le : X → X → Bool) (us : List (Entry X)) (at : ℕ) (d : Entry X) (h : X)
    → Stands le h us at → Grown le us (set us at (numbered (get_or us at d) ((get_or us at d).number + 1))) h 0
grown_number {X} le us at d h s =
    let lt = s.inside in
    let x = get_or us at d in
    let vs : List (Entry X) = set us at (numbered x (x.number + 1)) in
    let two = level_parts le x.height h (s.here d) in
    record {
      held = record {
        tallies = λ p b.
            let f : Bool → ℕ = λ v. cond v 1 0 in
            omega (
              arith,
              sum_by-set (weight p) us at (numbered x (x.number + 1)) d lt,
              ap f (b x.height h two.0 two.1),
              one_more (p x.height) x.number,
              tally_heights p vs,
              tally_heights p us,
            );
      };
      positive = positive_numbered us at (x.number + 1) x (omega arith);
      climbing = climbing_numbered le us at (x.number + 1) d lt;
      few = omega arith;
      exact = λ pos cl. steps_held le h us at d s pos;
    }

-- the same of the used entries, as the write leaves them
pub put_level : {X : Type 0} (le : X → X → Bool) (es : List (Entry X)) (used at : ℕ) (d e : Entry X) (h : X) → at < used → Stands le h (take used es) at
    → Grown le (take used es) (take used (set es at (record { height = (get_or es at d).height; number = (get_or es at e).number + 1 }))) h 0
put_level le es used at d e h lt s =
    let us = take used es in
    let n : (get_or us at d).number ≡ (get_or es at e).number
    = ap number (get_or_default us at d e s.inside ∙ get_or-take used es at e lt) in
    subst (λ vs. Grown le us vs h 0) (sym (used_numbered es used at ((get_or es at e).number + 1) d lt))
    (subst (λ m. Grown le us (set us at (numbered (get_or us at d) (m + 1))) h 0) n (grown_number le us at d h s))

-- ---- a new entry

-- the three sorts of places in a list with one entry more
by_place : (at k : ℕ) (P : ℕ → Type 0) → (k < at → P k) → (k ≡ at → P at) → ((m : ℕ) → k ≡ m + 1 → at ≤ m → P (m + 1)) → P k
by_place at k P a b c =
    ⊎_elim
    (λ (q : k ≡ at). subst P (sym q) (b q))
    (λ (o : (k < at) ⊎ (at < k)). ⊎_elim a
    (λ (q : at < k).
    let e : k ≡ k - 1 + 1 = omega arith in
    subst P (sym e) (c (k - 1) e (omega arith)))
    o)
    (cases_order k at)

-- the entry of a height that comes new
abbrev pub one : {X : Type 0} → X → Entry X
one h = record { height = h; number = 1 }

positive_inserted : {X : Type 0} (us : List (Entry X)) (at : ℕ) (h : X) → Positive us → Positive (insert us at (one h))
positive_inserted {X} us at h pos =
    let P : Entry X → Type 0 = λ e. 0 < e.number in
    All-append P (take at us) (one h ∷ drop at us) (All-take P at us pos) (All-cons P (one h) (drop at us) (omega arith) (All-drop P at us pos))

climbing_inserted : {X : Type 0} {le : X → X → Bool} → Preorder le → (us : List (Entry X)) (at : ℕ) (h : X)
    → Belongs le h us at → Climbing le us → Climbing le (insert us at (one h))
climbing_inserted {X} {le = le} o us at h b cl i j d l1 l2 =
    let low = b.within in
    let n = length-insert us at (one h) low in
    let L : Entry X → Entry X → Type 0 = λ x y. le x.height y.height ≡ false in
    let new = get_or-insert_at us at (one h) d low in
    by_place at j (λ k. L (get_or (insert us at (one h)) k d) (get_or (insert us at (one h)) i d))
    (λ q.
    let ej = get_or-insert_below us at (one h) d j q low in
    let ei = get_or-insert_below us at (one h) d i (omega arith) low in
    let f : L (get_or us j d) (get_or us i d) = cl i j d l1 (omega arith) in
    rw (ej, ei) f)
    (λ q.
    let ei = get_or-insert_below us at (one h) d i (omega arith) low in
    let f : L (one h) (get_or us i d) = b.lower i d (omega arith) in
    rw (new, ei) f)
    (λ m e q.
    let em = get_or-insert_above us at (one h) d m q low in
    by_place at i (λ k. L (get_or (insert us at (one h)) (m + 1) d) (get_or (insert us at (one h)) k d))
    (λ q'.
    let ei = get_or-insert_below us at (one h) d i q' low in
    let f : L (get_or us m d) (get_or us i d) = cl i m d (omega arith) (omega arith) in
    rw (em, ei) f)
    (λ q'.
    let f : L (get_or us m d) (one h) = higher_from o us at h cl d (b.higher d) m q (omega arith) in
    rw (em, new) f)
    (λ k e' q'.
    let ek = get_or-insert_above us at (one h) d k q' low in
    let f : L (get_or us m d) (get_or us k d) = cl k m d (omega arith) (omega arith) in
    rw (em, ek) f))

-- a new height more: an entry for it at its place
pub grown_entry : {X : Type 0} {le : X → X → Bool} → Preorder le → (us : List (Entry X)) (at : ℕ) (h : X)
    → Belongs le h us at → Grown le us (insert us at (one h)) h (length us - at)
grown_entry {X} {le = le} o us at h b =
    record {
      held = record {
        tallies = λ p bl.
            omega (
              arith,
              sum_by-insert (weight p) us at (one h),
              tally_heights p (insert us at (one h)),
              tally_heights p us,
            );
      };
      positive = positive_inserted us at h;
      climbing = climbing_inserted o us at h b;
      few = omega arith;
      exact = λ pos cl. steps_new o h us at b pos cl;
    }

-- the same of the used entries, as the insertion leaves them
pub put_entry : {X : Type 0} {le : X → X → Bool} → Preorder le → (es vs : List (Entry X)) (used at : ℕ) (h : X) → used ≤ length es → Belongs le h (take used es) at
    → vs ≡ insert (take used es) at (one h) → Grown le (take used es) vs h (used - at)
put_entry {le = le} o es vs used at h in' b e =
    let us = take used es in
    subst (λ ws. Grown le us ws h (used - at)) (sym e)
    (subst (λ n. Grown le us (insert us at (one h)) h (n - at)) (length-take-le used es in') (grown_entry o us at h b))
