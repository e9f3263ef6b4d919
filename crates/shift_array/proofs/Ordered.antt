-- Climbing entries around the place of a height.
use Rattle.std.proofs.Common.{◌≡◌, ℕ, ◌<◌, ◌≤◌, Bool, true, false, List, length, get_or, Ok, Err, Result, Some, None, Option, sym, ◌∙◌, subst, ⊎_elim, arith}
use Rattle.std.specs.Result.{result_ok}
use Rattle.std.proofs.lemmas.Bool.{cases_eq, cases_lt, both_ways, and_left, and_right, false_from_ne_true}
use Rattle.heights.specs.Order.{Preorder, level}
use Rattle.counters.specs.Held.{level_with}
use Rattle.counters.proofs.Preorders.{other_way, level_parts}
use Rattle.shift_array.specs.declared.entry.Entry.{Entry}
use Rattle.shift_array.specs.Entries.{heights, Climbing}
use Rattle.shift_array.specs.Places.{Stands, Belongs, Placed}
use Rattle.shift_array.proofs.Weights.{tally_none, tally_heights, weight_only}

-- from an entry that is higher than h on, all are
pub higher_from : {X : Type 0} {le : X → X → Bool} → Preorder le → (us : List (Entry X)) (at : ℕ) (h : X) → Climbing le us → (d : Entry X)
    → (at < length us → le (get_or us at d).height h ≡ false) → (j : ℕ) → at ≤ j → j < length us → le (get_or us j d).height h ≡ false
higher_from {X} {le = le} o us at h cl d hi j l1 l2 =
    ⊎_elim
    (λ (q : j ≡ at).
    let P : ℕ → Type 0 = λ n. le (get_or us n d).height h ≡ false in
    subst P (sym q) (hi (omega arith)))
    (λ (q : j ≡ at → ⊥).
    let up = other_way o (get_or us j d).height (get_or us at d).height (cl at j d (omega arith) l2) in
    false_from_ne_true (le (get_or us j d).height h)
    (λ t. both_ways (le (get_or us at d).height h) (hi (omega arith)) (o.transitive (get_or us at d).height (get_or us j d).height h up t)))
    (cases_eq j at)

-- above the entry that is level with h, all are higher than h
pub higher_above : {X : Type 0} {le : X → X → Bool} → Preorder le → (us : List (Entry X)) (at : ℕ) (h : X) → Climbing le us → (d : Entry X)
    → level le (get_or us at d).height h ≡ true → (j : ℕ) → at < j → j < length us → le (get_or us j d).height h ≡ false
higher_above {le = le} o us at h cl d here j l1 l2 =
    false_from_ne_true (le (get_or us j d).height h)
    (λ t. both_ways (le (get_or us j d).height (get_or us at d).height) (cl at j d l1 l2)
    (o.transitive (get_or us j d).height h (get_or us at d).height t (level_parts le (get_or us at d).height h here).1))

-- a lower entry is not level
pub lower_not_level : {X : Type 0} (le : X → X → Bool) (x h : X) → le h x ≡ false → level le x h ≡ false
lower_not_level le x h e = and_right (le x h) (le h x) e

-- a higher entry is not level
pub higher_not_level : {X : Type 0} (le : X → X → Bool) (x h : X) → le x h ≡ false → level le x h ≡ false
higher_not_level le x h e = and_left (le x h) (le h x) e

-- where h belongs between climbing entries, none is level with it
pub none_level : {X : Type 0} {le : X → X → Bool} → Preorder le → (us : List (Entry X)) (at : ℕ) (h : X) → Climbing le us → Belongs le h us at
    → (k : ℕ) (d : Entry X) → k < length us → level le (get_or us k d).height h ≡ false
none_level {le = le} o us at h cl b k d l =
    ⊎_elim
    (λ (q : k < at). lower_not_level le (get_or us k d).height h (b.lower k d q))
    (λ (q : at ≤ k). higher_not_level le (get_or us k d).height h (higher_from o us at h cl d (b.higher d) k q l))
    (cases_lt k at)

-- then no height is level with it
pub none_level_with : {X : Type 0} {le : X → X → Bool} → Preorder le → (us : List (Entry X)) (at : ℕ) (h : X) → Climbing le us → Belongs le h us at
    → level_with le (heights us) h ≡ 0
none_level_with {le = le} o us at h cl b = tally_none (λ x. level le x h) us (none_level o us at h cl b)

-- where h stands among climbing entries, the entry's number is the number of heights level with it
pub number_level : {X : Type 0} {le : X → X → Bool} → Preorder le → (us : List (Entry X)) (at : ℕ) (h : X) → Climbing le us → Stands le h us at
    → (d : Entry X) → level_with le (heights us) h ≡ (get_or us at d).number
number_level {le = le} o us at h cl s d =
    tally_heights (λ x. level le x h) us
    ∙ weight_only (λ x. level le x h) us at d s.inside (s.here d)
    (λ k d' l ne.
    ⊎_elim
    (λ (q : k < at). lower_not_level le (get_or us k d').height h (s.lower k d' q))
    (λ (q : at ≤ k). higher_not_level le (get_or us k d').height h (higher_above o us at h cl d' (s.here d') k (omega (arith, ne)) l))
    (cases_lt k at))

-- ---- what a search answered, read as an option

-- a place was found, so the height stands there
pub found : {X : Type 0} (le : X → X → Bool) (h : X) (us : List (Entry X)) (r : Result ℕ ℕ) (place : Option ℕ) (at : ℕ)
    → place ≡ result_ok r → place ≡ Some at → Placed le h us r → Stands le h us at
found le h us (Ok n) place at e some p = let q : n ≡ at = cc in subst (Stands le h us) q p
found le h us (Err n) place at e some p = absurd (let z : ◌≡◌ {A = ℕ} 0 1 = cc in omega arith)

-- none was found, so among climbing entries no height is level with it
pub missing : {X : Type 0} {le : X → X → Bool} → Preorder le → (h : X) (us : List (Entry X)) (r : Result ℕ ℕ) (place : Option ℕ)
    → place ≡ result_ok r → place ≡ None → Placed le h us r → Climbing le us → level_with le (heights us) h ≡ 0
missing o h us (Ok n) place e none p cl = absurd (let z : ◌≡◌ {A = ℕ} 0 1 = cc in omega arith)
missing o h us (Err at) place e none p cl = none_level_with o us at h cl p
