-- An entry with another number: what stays, and what the entries weigh then.
use Rattle.std.proofs.Common.{◌≡◌, ℕ, zero, suc, ◌+◌, ◌-◌, ◌<◌, ◌≤◌, Bool, true, false, cond, List, [], ◌∷◌, length, take, drop, set, sum_by, sym, refl, ap, ◌∙◌, subst, ⊎_elim, arith}
use Rattle.std.proofs.lemmas.List.{get_or-set_same, get_or-set_other, length-set, drop-set-add}
use Rattle.std.proofs.lemmas.List.Sums.{sum_by-set}
use Rattle.std.proofs.lemmas.Bool.{cases_eq}
use Rattle.std.proofs.Math.Seq.{take-set-lt}
use Rattle.finger_list.specs.declared.entry.Entry.{Entry}
use Rattle.finger_list.specs.Entries.{in_use, height_at, number_at, next_at, prev_at, Positive}
use Rattle.finger_list.specs.Linking.{Linked, InOrder, StandsAt}
use Rattle.finger_list.specs.Walking.{part, many, weighs}
use Rattle.finger_list.proofs.Weights.{length_used, by_link}
use Rattle.finger_list.proofs.Standing.{Renamed, chain_rename, stands_rename}

-- the entries with the number n at a
abbrev pub renumbered : {X : Type 0} → List (Entry X) → Entry X → (a n : ℕ) → List (Entry X)
renumbered es o a n = set es a (record { height = height_at es o a; number = n; next = next_at es o a; prev = prev_at es o a })

-- heights and links are as they were
pub same_else : {X : Type 0} (es : List (Entry X)) (o d : Entry X) (a n j : ℕ)
    → (height_at (renumbered es o a n) d j ≡ height_at es d j) × (next_at (renumbered es o a n) d j ≡ next_at es d j) × (prev_at (renumbered es o a n) d j ≡ prev_at es d j)
same_else [] o d a n j = (refl, refl, refl)
same_else (y ∷ es) o d zero n zero = (refl, refl, refl)
same_else (y ∷ es) o d zero n (suc j) = (refl, refl, refl)
same_else (y ∷ es) o d (suc a) n zero = (refl, refl, refl)
same_else (y ∷ es) o d (suc a) n (suc j) = same_else es o d a n j

-- the number is there
number_here : {X : Type 0} (es : List (Entry X)) (o d : Entry X) (a n : ℕ) → a < length es → number_at (renumbered es o a n) d a ≡ n
number_here {X} es o d a n lt = ap (λ (x : Entry X). x.number) (get_or-set_same es a _ d lt)

-- the other numbers are as they were
number_other : {X : Type 0} (es : List (Entry X)) (o d : Entry X) (a n j : ℕ) → (j ≡ a → ⊥) → number_at (renumbered es o a n) d j ≡ number_at es d j
number_other {X} es o d a n j ne = ap (λ (x : Entry X). x.number) (get_or-set_other es a j _ d ne)

-- what holds of the number and of each other one holds of all
each_number : {X : Type 0} (es : List (Entry X)) (o d : Entry X) (a n j : ℕ) → a < length es → (P : ℕ → Type 0) → P n → P (number_at es d j)
    → P (number_at (renumbered es o a n) d j)
each_number es o d a n j lt P here there =
    ⊎_elim
    (λ (q : j ≡ a). subst (λ m. P (number_at (renumbered es o a n) d m)) (sym q) (subst P (sym (number_here es o d a n lt)) here))
    (λ (ne : j ≡ a → ⊥). subst P (sym (number_other es o d a n j ne)) there)
    (cases_eq j a)

-- numbers above 0 stay so
pub renumbered_positive : {X : Type 0} (es : List (Entry X)) (used : ℕ) (o : Entry X) (a n : ℕ) → a < length es → 0 < n → Positive es used
    → Positive (renumbered es o a n) used
renumbered_positive es used o a n lt here ps i d pos lo = each_number es o d a n i lt (λ m. 0 < m) here (ps i d pos lo)

-- the links are kept
pub renumbered_linked : {X : Type 0} (es : List (Entry X)) (used : ℕ) (o : Entry X) (a n : ℕ) → a < length es → n ≤ 1048576 → Linked es used
    → Linked (renumbered es o a n) used
renumbered_linked es used o a n lt small l =
    let fs = renumbered es o a n in
    let size = length-set es a (record { height = height_at es o a; number = n; next = next_at es o a; prev = prev_at es o a }) in (
      omega (arith, size, l.0),
      l.1,
      λ i d lo il.
          let t = l.2 i d lo (omega (arith, size)) in
          let s = same_else es o d a n in (
            omega (arith, (s i).1, t.0),
            omega (arith, (s i).2, t.1),
            each_number es o d a n i lt (λ m. m ≤ 1048576) small t.2,
            ap (next_at fs d) (s i).2 ∙ (s (prev_at es d i)).1 ∙ t.3,
            ap (prev_at fs d) (s i).1 ∙ (s (next_at es d i)).2 ∙ t.4,
          ),
    )

-- the entries keep their names
kept : {X : Type 0} (es : List (Entry X)) (used : ℕ) (o d : Entry X) (a n : ℕ)
    → Renamed (height_at es d) (λ j. j ≤ used) (height_at (renumbered es o a n) d) (λ j. j ≤ used) (λ j. j)
kept es used o d a n =
    record { inside = λ j q. q; end = λ j _ q. q; ends = λ j _ q. q; one = λ i j _ _ q. q; same = λ j _. (same_else es o d a n j).0 }

-- the order is kept
pub renumbered_order : {X : Type 0} (le : X → X → Bool) (es : List (Entry X)) (used : ℕ) (o : Entry X) (a n : ℕ) → a < length es → Linked es used → InOrder le es used
    → InOrder le (renumbered es o a n) used
renumbered_order le es used o a n lt l so d =
    chain_rename le (height_at es d) (next_at es d) (λ j. j ≤ used) (height_at (renumbered es o a n) d) (next_at (renumbered es o a n) d) (λ j. j ≤ used) (λ j. j)
    (kept es used o d a n)
    (λ j lo. omega (arith, (same_else es o d a n j).1, (l.2 j d lo (omega (arith, l.0, lt))).0)) (λ j _. (same_else es o d a n j).1) (so d)

-- a height stands where it stood
pub renumbered_stands : {X : Type 0} (le : X → X → Bool) (es : List (Entry X)) (used : ℕ) (o : Entry X) (a n : ℕ) (p : X) (i : ℕ) → i ≤ used
    → StandsAt le es used p i → StandsAt le (renumbered es o a n) used p i
renumbered_stands le es used o a n p i lo at d =
    stands_rename le (height_at es d) (λ j. j ≤ used) (height_at (renumbered es o a n) d) (λ j. j ≤ used) (λ j. j) (kept es used o d a n) p i lo (at d)

-- one number is weighed in place of another
pub renumbered_weighs : {X : Type 0} (es : List (Entry X)) (used : ℕ) (o : Entry X) (a n : ℕ) → used ≤ length es - 1 → 0 < a → a ≤ used → (t : X → Bool)
    → weighs t many (in_use (renumbered es o a n) used) + cond (t (height_at es o a)) (number_at es o a) 0
    ≡ weighs t many (in_use es used) + cond (t (height_at es o a)) n 0
renumbered_weighs {X} es used o a n room pos low t =
    let y : Entry X = record { height = height_at es o a; number = n; next = next_at es o a; prev = prev_at es o a } in
    let f : Entry X → ℕ = part t many in
    let len = length_used es used room in
    let back : a ≡ 1 + (a - 1) = omega arith in
    let e : in_use (set es a y) used ≡ set (in_use es used) (a - 1) y
    = ap (λ m. take used (drop 1 (set es m y))) back ∙ ap (take used) (drop-set-add 1 es (a - 1) y) ∙ take-set-lt used (drop 1 es) (a - 1) y (omega arith) in
    omega (arith, ap (sum_by f) e, sum_by-set f (in_use es used) (a - 1) y o (omega (arith, len)), ap f (by_link es used a o pos low))

-- a number one greater weighs one more
pub one_more : (b : Bool) (n : ℕ) → cond b (n + 1) 0 ≡ cond b n 0 + cond b 1 0
one_more true n = refl
one_more false n = refl
