-- The distinct heights of climbing entries, and the steps of a change.
use Rattle.std.proofs.Common.{◌≡◌, ℕ, zero, suc, ◌+◌, ◌-◌, ◌<◌, ◌≤◌, Bool, true, false, cond, not, List, [], ◌∷◌, ◌++◌, length, get_or, take, drop, replicate, sum_by, sym, refl, ap, ◌∙◌, ⊎_elim, arith}
use Rattle.std.proofs.lemmas.List.{get_or-take, get_or-drop, length-take-le, length-drop}
use Rattle.std.proofs.lemmas.List.Sums.{sum_by-cons, sum_by-take-drop}
use Rattle.std.proofs.lemmas.Bool.{cases_lt, eq-eqb, ne_eqb}
use Rattle.heights.specs.Order.{Preorder, level}
use Rattle.counters.specs.Held.{has_level, distinct, above, level_with}
use Rattle.counters.specs.Calls.{shift_steps, put, take as taking}
use Rattle.counters.proofs.Preorders.{other_way, level_self, level_parts}
use Rattle.shift_array.specs.declared.entry.Entry.{Entry}
use Rattle.shift_array.specs.Entries.{heights, Positive, Climbing}
use Rattle.shift_array.specs.Places.{Stands, Belongs}
use Rattle.shift_array.proofs.Weights.{sum_none}
use Rattle.shift_array.proofs.Ordered.{higher_from, higher_above, higher_not_level, none_level, number_level}

-- ---- whether the heights of entries have one level with h

has_none : {X : Type 0} (le : X → X → Bool) (h x : X) (n : ℕ) (ys : List X)
    → level le x h ≡ false → has_level le ys h ≡ false → has_level le (replicate n x ++ ys) h ≡ false
has_none le h x zero ys off rest = rest
has_none le h x (suc n) ys off rest =
    ap (λ t. cond t true (has_level le (replicate n x ++ ys) h)) off ∙ has_none le h x n ys off rest

has_first : {X : Type 0} (le : X → X → Bool) (h x : X) (n : ℕ) (ys : List X) → 0 < n
    → level le x h ≡ true → has_level le (replicate n x ++ ys) h ≡ true
has_first le h x zero ys pos here = absurd (omega arith)
has_first le h x (suc n) ys pos here = ap (λ t. cond t true (has_level le (replicate n x ++ ys) h)) here

later : (b c : Bool) → c ≡ true → cond b true c ≡ true
later true c e = refl
later false c e = e

has_later : {X : Type 0} (le : X → X → Bool) (h x : X) (n : ℕ) (ys : List X)
    → has_level le ys h ≡ true → has_level le (replicate n x ++ ys) h ≡ true
has_later le h x zero ys rest = rest
has_later le h x (suc n) ys rest = later (level le x h) (has_level le (replicate n x ++ ys) h) (has_later le h x n ys rest)

-- no entry is level with h, so no height is
pub has_not : {X : Type 0} (le : X → X → Bool) (h : X) (us : List (Entry X))
    → ((k : ℕ) (d : Entry X) → k < length us → level le (get_or us k d).height h ≡ false) → has_level le (heights us) h ≡ false
has_not le h [] f = refl
has_not le h (e ∷ es) f =
    has_none le h e.height e.number (heights es) (f 0 e (omega arith)) (has_not le h es (λ k d l. f (suc k) d (omega arith)))

-- an entry is level with h, so a height is
pub has : {X : Type 0} (le : X → X → Bool) (h : X) (us : List (Entry X)) (at : ℕ) (d : Entry X)
    → at < length us → Positive us → level le (get_or us at d).height h ≡ true → has_level le (heights us) h ≡ true
has le h [] at d lt pos here = absurd (omega arith)
has le h (e ∷ es) zero d lt pos here = has_first le h e.height e.number (heights es) (pos 0 e (omega arith)) here
has le h (e ∷ es) (suc at) d lt pos here =
    has_later le h e.height e.number (heights es) (has le h es at d (omega arith) (λ i d' l. pos (suc i) d' (omega arith)) here)

-- ---- the distinct heights of climbing entries are the entries

distinct_many : {X : Type 0} {le : X → X → Bool} → Preorder le → (p : X → Bool) (x : X) (n : ℕ) (ys : List X)
    → 0 < n → has_level le ys x ≡ false → distinct le p (replicate n x ++ ys) ≡ cond (p x) 1 0 + distinct le p ys
distinct_many o p x zero ys pos off = absurd (omega arith)
distinct_many {le = le} o p x (suc zero) ys pos off = ap (λ t. cond t 0 (cond (p x) 1 0) + distinct le p ys) off
distinct_many {le = le} o p x (suc (suc n)) ys pos off =
    let f : Bool → ℕ = λ t. cond t 0 (cond (p x) 1 0) in
    let e = ap f (has_first le x x (suc n) ys (omega arith) (level_self o x)) in
    omega (arith, e, distinct_many o p x (suc n) ys (omega arith) off)

-- 1 for an entry whose height passes a test
abbrev pub passing : {X : Type 0} → (X → Bool) → Entry X → ℕ
passing p e = cond (p e.height) 1 0

-- the distinct heights that pass a test are the entries that do
pub distinct_entries : {X : Type 0} {le : X → X → Bool} → Preorder le → (p : X → Bool) (us : List (Entry X))
    → Positive us → Climbing le us → distinct le p (heights us) ≡ sum_by (passing p) us
distinct_entries o p [] pos cl = refl
distinct_entries {le = le} o p (e ∷ es) pos cl =
    let none : has_level le (heights es) e.height ≡ false
    = has_not le e.height es (λ k d l. higher_not_level le (get_or es k d).height e.height (cl 0 (suc k) d (omega arith) (omega arith))) in
    omega (
      arith,
      distinct_many o p e.height e.number (heights es) (pos 0 e (omega arith)) none,
      distinct_entries o p es (λ i d l. pos (suc i) d (omega arith)) (λ i j d l1 l2. cl (suc i) (suc j) d (omega arith) (omega arith)),
      sum_by-cons (passing p) e es,
    )

none_above : {X : Type 0} (le : X → X → Bool) (h : X) (us : List (Entry X))
    → ((k : ℕ) (d : Entry X) → k < length us → le (get_or us k d).height h ≡ true) → sum_by (passing (above le h)) us ≡ 0
none_above le h us f = sum_none (passing (above le h)) us (λ k d l. ap (λ t. cond (not t) 1 0) (f k d l))

all_above : {X : Type 0} (le : X → X → Bool) (h : X) (us : List (Entry X))
    → ((k : ℕ) (d : Entry X) → k < length us → le (get_or us k d).height h ≡ false) → sum_by (passing (above le h)) us ≡ length us
all_above le h [] f = refl
all_above le h (e ∷ es) f =
    let g : Bool → ℕ = λ t. cond (not t) 1 0 in
    omega (arith, sum_by-cons (passing (above le h)) e es, ap g (f 0 e (omega arith)), all_above le h es (λ k d l. f (suc k) d (omega arith)))

-- where the first entries are not higher than h and the others are, the others are the distinct heights above h
pub distinct_above : {X : Type 0} {le : X → X → Bool} → Preorder le → (h : X) (us : List (Entry X)) (at : ℕ)
    → Positive us → Climbing le us → at ≤ length us
    → ((k : ℕ) (d : Entry X) → k < at → le (get_or us k d).height h ≡ true)
    → ((k : ℕ) (d : Entry X) → at ≤ k → k < length us → le (get_or us k d).height h ≡ false)
    → distinct le (above le h) (heights us) ≡ length us - at
distinct_above {le = le} o h us at pos cl low lo hi =
    let n = length-take-le at us low in
    omega (
      arith,
      n,
      length-drop at us,
      distinct_entries o (above le h) us pos cl,
      sum_by-take-drop (passing (above le h)) us at,
      none_above le h (take at us) (λ k d l. ap (λ e. le e.height h) (get_or-take at us k d (omega arith)) ∙ lo k d (omega arith)),
      all_above le h (drop at us) (λ k d l. ap (λ e. le e.height h) (get_or-drop at us k d) ∙ hi (at + k) d (omega arith) (omega (arith, length-drop at us))),
    )

-- ---- the steps of a change

-- a new height moves the entries from its place on
pub steps_new : {X : Type 0} {le : X → X → Bool} → Preorder le → (h : X) (us : List (Entry X)) (at : ℕ)
    → Belongs le h us at → Positive us → Climbing le us → length us - at ≡ shift_steps le (heights us) (put h)
steps_new {le = le} o h us at b pos cl =
    sym (ap (λ t. cond t 0 (distinct le (above le h) (heights us))) (has_not le h us (none_level o us at h cl b))
    ∙ distinct_above o h us at pos cl b.within
    (λ k d l. other_way o h (get_or us k d).height (b.lower k d l))
    (λ k d l1 l2. higher_from o us at h cl d (b.higher d) k l1 l2))

-- a height that is held moves none
pub steps_held : {X : Type 0} (le : X → X → Bool) (h : X) (us : List (Entry X)) (at : ℕ) (d : Entry X)
    → Stands le h us at → Positive us → 0 ≡ shift_steps le (heights us) (put h)
steps_held le h us at d s pos =
    sym (ap (λ t. cond t 0 (distinct le (above le h) (heights us))) (has le h us at d s.inside pos (s.here d)))

-- one of several level heights goes and moves none
pub steps_fewer : {X : Type 0} {le : X → X → Bool} → Preorder le → (h : X) (us : List (Entry X)) (at : ℕ) (d : Entry X)
    → Stands le h us at → 1 < (get_or us at d).number → Climbing le us → 0 ≡ shift_steps le (heights us) (taking h)
steps_fewer {le = le} o h us at d s many cl =
    let e = number_level o us at h cl s d in
    sym (ap (λ t. cond t (distinct le (above le h) (heights us)) 0) (ne_eqb (level_with le (heights us) h) 1 (λ q. omega arith)))

-- the last of its level goes and moves the entries above it
pub steps_last : {X : Type 0} {le : X → X → Bool} → Preorder le → (h : X) (us : List (Entry X)) (at : ℕ) (d : Entry X)
    → Stands le h us at → (get_or us at d).number ≡ 1 → Positive us → Climbing le us → length us - 1 - at ≡ shift_steps le (heights us) (taking h)
steps_last {X} {le = le} o h us at d s last pos cl =
    let e = number_level o us at h cl s d in
    let lo : (k : ℕ) (d : Entry X) → k < at + 1 → le (get_or us k d).height h ≡ true
    = λ k d l.
    ⊎_elim
    (λ (q : k < at). other_way o h (get_or us k d).height (s.lower k d q))
    (λ (q : at ≤ k).
    let i : k ≡ at = omega arith in
    ap (λ n. le (get_or us n d).height h) i ∙ (level_parts le (get_or us at d).height h (s.here d)).0)
    (cases_lt k at) in
    let n = distinct_above o h us (at + 1) pos cl (omega (arith, s.inside)) lo
    (λ k d l1 l2. higher_above o us at h cl d (s.here d) k (omega arith) l2) in
    sym (ap (λ t. cond t (distinct le (above le h) (heights us)) 0) (eq-eqb (level_with le (heights us) h) 1 (e ∙ last)) ∙ omega (arith, n))
