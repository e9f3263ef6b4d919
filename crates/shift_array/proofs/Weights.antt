-- Tallies of the heights that entries stand for, as sums over the entries.
use Rattle.std.proofs.Common.{◌≡◌, ℕ, zero, suc, ◌+◌, ◌<◌, ◌≤◌, Bool, true, false, cond, List, [], ◌∷◌, length, get_or, take, drop, replicate, sum_by, sym, refl, ap, ◌∙◌, arith}
use Rattle.std.specs.List.{prefix_len, take_while}
use Rattle.std.proofs.lemmas.List.{get_or-take, get_or-drop, length-drop}
use Rattle.std.proofs.lemmas.List.Folds.{length-prefix_len}
use Rattle.std.proofs.lemmas.List.Sums.{sum_by-cons, sum_by_more, sum_by-le, sum_by-take-drop, sum_by-take-le, get_or-le-sum_by, prefix_len_passes}
use Rattle.counters.specs.Held.{tally}
use Rattle.counters.proofs.Tallies.{tally_append, tally_always}
use Rattle.shift_array.specs.declared.entry.Entry.{Entry}
use Rattle.shift_array.specs.Entries.{heights, Positive}

-- how many heights of an entry pass a test
abbrev pub weight : {X : Type 0} → (X → Bool) → Entry X → ℕ
weight p e = cond (p e.height) e.number 0

tally_replicate : {X : Type 0} (p : X → Bool) (n : ℕ) (x : X) → tally p (replicate n x) ≡ cond (p x) n 0
tally_replicate p zero x = elim (p x) as (λ b. ◌≡◌ {A = ℕ} 0 (cond b 0 0)) [ true ↦ refl | false ↦ refl ]
tally_replicate p (suc n) x =
    let step : (b : Bool) → tally p (replicate n x) ≡ cond b n 0 → cond b 1 0 + tally p (replicate n x) ≡ cond b (suc n) 0
    = λ b. elim b as (λ v. tally p (replicate n x) ≡ cond v n 0 → cond v 1 0 + tally p (replicate n x) ≡ cond v (suc n) 0)
    [ true ↦ λ e. omega (arith, e) | false ↦ λ e. omega (arith, e) ] in
    step (p x) (tally_replicate p n x)

-- a tally of the heights is the sum of the entries' weights
pub tally_heights : {X : Type 0} (p : X → Bool) (es : List (Entry X)) → tally p (heights es) ≡ sum_by (weight p) es
tally_heights p [] = refl
tally_heights p (e ∷ es) =
    omega (
      arith,
      tally_append p (replicate e.number e.height) (heights es),
      tally_replicate p e.number e.height,
      tally_heights p es,
      sum_by-cons (weight p) e es,
    )

-- the heights are as many as the numbers add up to
pub length_heights : {X : Type 0} (es : List (Entry X)) → length (heights es) ≡ sum_by (weight (λ _. true)) es
length_heights es = sym (tally_always (heights es)) ∙ tally_heights (λ _. true) es

-- an entry's number is at most the number of heights
pub number_le : {X : Type 0} (es : List (Entry X)) (at : ℕ) (d : Entry X) → at < length es → (get_or es at d).number ≤ length (heights es)
number_le es at d lt = omega (arith, get_or-le-sum_by (weight (λ _. true)) es at d lt, length_heights es)

-- entries with numbers above 0 are no more than their heights
pub entries_le_heights : {X : Type 0} (es : List (Entry X)) → Positive es → length es ≤ length (heights es)
entries_le_heights [] pos = omega arith
entries_le_heights (e ∷ es) pos =
    omega (
      arith,
      pos 0 e (omega arith),
      length_heights (e ∷ es),
      length_heights es,
      sum_by-cons (weight (λ _. true)) e es,
      entries_le_heights es (λ i d l. pos (suc i) d (omega arith)),
    )

-- one entry more, whose height passes the test
pub tally_more : {X : Type 0} (p : X → Bool) (es : List (Entry X)) (i : ℕ) (x : Entry X) → i < length es → x ≡ get_or es i x → p x.height ≡ true
    → tally p (heights (take (i + 1) es)) ≡ tally p (heights (take i es)) + x.number
tally_more {X} p es i x lt is passes =
    let f : Bool → ℕ = λ b. cond b x.number 0 in
    omega (arith, tally_heights p (take (i + 1) es), tally_heights p (take i es), sum_by_more (weight p) es i x lt, ap (weight p) is, ap f passes)

-- the tally of the first entries is at most the number of all heights
pub tally_part : {X : Type 0} (p : X → Bool) (es : List (Entry X)) (i : ℕ) → tally p (heights (take i es)) ≤ tally p (heights es)
tally_part p es i = omega (arith, tally_heights p (take i es), tally_heights p es, sum_by-take-le (weight p) es i)

-- numbers that are all 0 add up to 0
pub sum_none : {X : Type 0} (f : X → ℕ) (xs : List X) → ((k : ℕ) (d : X) → k < length xs → f (get_or xs k d) ≡ 0) → sum_by f xs ≡ 0
sum_none f xs e = omega (arith, sum_by-le f 0 xs (λ k d l. omega (arith, e k d l)))

-- entries whose heights all fail a test weigh nothing
pub weight_none : {X : Type 0} (p : X → Bool) (es : List (Entry X))
    → ((k : ℕ) (d : Entry X) → k < length es → p (get_or es k d).height ≡ false) → sum_by (weight p) es ≡ 0
weight_none p es f = sum_none (weight p) es (λ k d l. ap (λ b. cond b (get_or es k d).number 0) (f k d l))

-- heights that all fail a test have tally 0
pub tally_none : {X : Type 0} (p : X → Bool) (es : List (Entry X))
    → ((k : ℕ) (d : Entry X) → k < length es → p (get_or es k d).height ≡ false) → tally p (heights es) ≡ 0
tally_none p es f = tally_heights p es ∙ weight_none p es f

-- where all entries from a place on fail a test, those before it have the whole tally
pub tally_front : {X : Type 0} (p : X → Bool) (es : List (Entry X)) (at : ℕ)
    → ((k : ℕ) (d : Entry X) → at ≤ k → k < length es → p (get_or es k d).height ≡ false) → tally p (heights (take at es)) ≡ tally p (heights es)
tally_front p es at f =
    omega (
      arith,
      tally_heights p (take at es),
      tally_heights p es,
      sum_by-take-drop (weight p) es at,
      weight_none p (drop at es) (λ k d l. ap (λ e. p e.height) (get_or-drop at es k d) ∙ f (at + k) d (omega arith) (omega (arith, length-drop at es))),
    )

-- the number of an entry
abbrev pub number : {X : Type 0} → Entry X → ℕ
number e = e.number

-- the entries before the first whose height fails a test
abbrev pub front : {X : Type 0} → (X → Bool) → List (Entry X) → List (Entry X)
front p es = take_while (λ e. p e.height) es

-- numbers of entries before the first that fails add up to at most the number of all heights
pub front_le : {X : Type 0} (p : X → Bool) (es : List (Entry X)) → sum_by number (front p es) ≤ length (heights es)
front_le p es = omega (arith, sum_by-take-le number es (prefix_len (λ e. p e.height) es), length_heights es)

weight_all : {X : Type 0} (p : X → Bool) (es : List (Entry X))
    → ((k : ℕ) (d : Entry X) → k < length es → p (get_or es k d).height ≡ true) → sum_by (weight p) es ≡ sum_by number es
weight_all p [] f = refl
weight_all p (e ∷ es) f =
    let g : Bool → ℕ = λ b. cond b e.number 0 in
    omega (arith, sum_by-cons (weight p) e es, sum_by-cons number e es, ap g (f 0 e (omega arith)), weight_all p es (λ k d l. f (suc k) d (omega arith)))

-- where all entries from the first that fails a test on fail it, the numbers of those before it add up to the tally
pub front_tally : {X : Type 0} (p : X → Bool) (es : List (Entry X))
    → ((k : ℕ) (d : Entry X) → prefix_len (λ e. p e.height) es ≤ k → k < length es → p (get_or es k d).height ≡ false)
    → sum_by number (front p es) ≡ tally p (heights es)
front_tally {X} p es f =
    let q : Entry X → Bool = λ e. p e.height in
    let n = prefix_len q es in
    omega (
      arith,
      tally_front p es n f,
      tally_heights p (take n es),
      weight_all p (take n es) (λ k d l. ap q (get_or-take n es k d (omega (arith, length-prefix_len q es))) ∙ prefix_len_passes q es k d (omega (arith, length-prefix_len q es))),
    )

-- where one entry alone passes a test, its number is the tally
pub weight_only : {X : Type 0} (p : X → Bool) (es : List (Entry X)) (at : ℕ) (d : Entry X) → at < length es → p (get_or es at d).height ≡ true
    → ((k : ℕ) (d : Entry X) → k < length es → (k ≡ at → ⊥) → p (get_or es k d).height ≡ false) → sum_by (weight p) es ≡ (get_or es at d).number
weight_only p [] at d lt passes f = absurd (omega arith)
weight_only p (e ∷ es) zero d lt passes f =
    let g : Bool → ℕ = λ b. cond b e.number 0 in
    omega (arith, sum_by-cons (weight p) e es, ap g passes, weight_none p es (λ k d' l. f (suc k) d' (omega arith) (λ q. omega arith)))
weight_only p (e ∷ es) (suc at) d lt passes f =
    let g : Bool → ℕ = λ b. cond b e.number 0 in
    omega (
      arith,
      sum_by-cons (weight p) e es,
      ap g (f 0 e (omega arith) (λ q. omega arith)),
      weight_only p es at d (omega arith) passes (λ k d' l q. f (suc k) d' (omega arith) (λ r. q (omega arith))),
    )
