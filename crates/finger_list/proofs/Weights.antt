-- What the entries that pass a test weigh.
use Rattle.std.proofs.Common.{◌≡◌, ℕ, zero, suc, ◌+◌, ◌-◌, ◌<◌, ◌≤◌, Bool, true, false, cond, List, [], ◌∷◌, length, get_or, drop, refl, ap, ◌∙◌, ⊎_elim, arith}
use Rattle.std.proofs.lemmas.List.{get_or-take, get_or-drop, length-take-le, length-drop}
use Rattle.std.proofs.lemmas.List.Sums.{sum_by-cons, count_by-le-length}
use Rattle.std.proofs.lemmas.Bool.{cases_Bool}
use Rattle.finger_list.specs.declared.entry.Entry.{Entry}
use Rattle.finger_list.specs.Entries.{in_use}
use Rattle.finger_list.specs.Walking.{part, one, weighs}

-- tests that agree on an entry's height weigh it alike
part_same : {X : Type 0} (t u : X → Bool) (w : Entry X → ℕ) (e : Entry X) → t e.height ≡ u e.height → part t w e ≡ part u w e
part_same t u w e q = let f : Bool → ℕ = λ b. cond b (w e) 0 in ap f q

-- tests that agree on the entries weigh the same
pub weighs_same : {X : Type 0} (t u : X → Bool) (w : Entry X → ℕ) (us : List (Entry X))
    → ((k : ℕ) (d : Entry X) → k < length us → t (get_or us k d).height ≡ u (get_or us k d).height) → weighs t w us ≡ weighs u w us
weighs_same t u w [] f = refl
weighs_same t u w (e ∷ es) f =
    omega (
      arith,
      sum_by-cons (part t w) e es,
      sum_by-cons (part u w) e es,
      part_same t u w e (f 0 e (omega arith)),
      weighs_same t u w es (λ k d l. f (suc k) d (omega arith)),
    )

-- a test that passes one entry more weighs that entry more
pub weighs_one_more : {X : Type 0} (t u : X → Bool) (w : Entry X → ℕ) (us : List (Entry X)) (n : ℕ) (x : Entry X) → n < length us
    → t (get_or us n x).height ≡ false → u (get_or us n x).height ≡ true
    → ((k : ℕ) (d : Entry X) → k < length us → (k ≡ n → ⊥) → u (get_or us k d).height ≡ t (get_or us k d).height)
    → weighs u w us ≡ weighs t w us + w (get_or us n x)
weighs_one_more t u w [] n x lt off on f = absurd (omega arith)
weighs_one_more {X} t u w (e ∷ es) zero x lt off on f =
    let g : Bool → ℕ = λ b. cond b (w e) 0 in
    omega (
      arith,
      sum_by-cons (part t w) e es,
      sum_by-cons (part u w) e es,
      ap g off,
      ap g on,
      weighs_same u t w es (λ k d l. f (suc k) d (omega arith) (λ q. omega arith)),
    )
weighs_one_more t u w (e ∷ es) (suc n) x lt off on f =
    omega (
      arith,
      sum_by-cons (part t w) e es,
      sum_by-cons (part u w) e es,
      part_same u t w e (f 0 e (omega arith) (λ q. omega arith)),
      weighs_one_more t u w es n x (omega arith) off on (λ k d l ne. f (suc k) d (omega arith) (λ q. ne (omega arith))),
    )

-- entries that weigh one each weigh no more than they are
pub weighs_few : {X : Type 0} (t : X → Bool) (us : List (Entry X)) → weighs t one us ≤ length us
weighs_few t us = count_by-le-length (λ e. t e.height) us

-- a test that as many entries pass as there are passes each
pub weighs_full : {X : Type 0} (t : X → Bool) (us : List (Entry X)) → length us ≤ weighs t one us
    → (k : ℕ) (d : Entry X) → k < length us → t (get_or us k d).height ≡ true
weighs_full t [] full k d lt = absurd (omega arith)
weighs_full {X} t (e ∷ es) full zero d lt =
    let g : Bool → ℕ = λ b. cond b 1 0 in
    ⊎_elim (λ (q : t e.height ≡ true). q)
    (λ (q : t e.height ≡ false). absurd (omega (arith, sum_by-cons (part t one) e es, ap g q, weighs_few t es)))
    (cases_Bool (t e.height))
weighs_full {X} t (e ∷ es) full (suc k) d lt =
    let g : Bool → ℕ = λ b. cond b 1 0 in
    let few : g (t e.height) ≤ 1 = ⊎_elim (λ (q : t e.height ≡ true). omega (arith, ap g q)) (λ (q : t e.height ≡ false). omega (arith, ap g q)) (cases_Bool (t e.height)) in
    weighs_full t es (omega (arith, sum_by-cons (part t one) e es, few)) k d (omega arith)

-- the used entries, by their links
pub length_used : {X : Type 0} (es : List (Entry X)) (used : ℕ) → used ≤ length es - 1 → length (in_use es used) ≡ used
length_used es used le = length-take-le used (drop 1 es) (omega (arith, length-drop 1 es))

-- an entry in use, by its index among them
pub at_used : {X : Type 0} (es : List (Entry X)) (used k : ℕ) (d : Entry X) → k < used → get_or (in_use es used) k d ≡ get_or es (1 + k) d
at_used es used k d lt = get_or-take used (drop 1 es) k d lt ∙ get_or-drop 1 es k d

-- a test that weighs nothing passes no entry
pub weighs_none : {X : Type 0} (t : X → Bool) (us : List (Entry X)) → weighs t one us ≡ 0
    → (k : ℕ) (d : Entry X) → k < length us → t (get_or us k d).height ≡ false
weighs_none t [] none k d lt = absurd (omega arith)
weighs_none {X} t (e ∷ es) none zero d lt =
    let g : Bool → ℕ = λ b. cond b 1 0 in
    ⊎_elim (λ (q : t e.height ≡ true). absurd (omega (arith, sum_by-cons (part t one) e es, ap g q)))
    (λ (q : t e.height ≡ false). q)
    (cases_Bool (t e.height))
weighs_none {X} t (e ∷ es) none (suc k) d lt =
    weighs_none t es (omega (arith, sum_by-cons (part t one) e es)) k d (omega arith)

-- an entry in use, by its link
pub by_link : {X : Type 0} (es : List (Entry X)) (used j : ℕ) (d : Entry X) → 0 < j → j ≤ used → get_or (in_use es used) (j - 1) d ≡ get_or es j d
by_link es used j d h₁ h₂ = at_used es used (j - 1) d (omega arith) ∙ ap (λ m. get_or es m d) (omega arith)

-- a test that passes nothing weighs nothing
pub weighs_nothing : {X : Type 0} (w : Entry X → ℕ) (us : List (Entry X)) → weighs (λ _. false) w us ≡ 0
weighs_nothing w [] = refl
weighs_nothing w (u ∷ us) = weighs_nothing w us
