-- The distinct heights of a list: they are the same in lists that hold the same heights, and more in more heights.
use Rattle.std.proofs.Common.{◌≡◌, ◌+◌, ◌<◌, ◌≤◌, Bool, true, false, cond, List, [], ◌∷◌, ◌++◌, length, sym, refl, ap, ◌∙◌, arith}
use Rattle.std.proofs.lemmas.Bool.{both_ways, false≢true, false_from_ne_true}
use Rattle.std.proofs.lemmas.Bool.Decides.{nat_tests}
use Rattle.heights.specs.Order.{Preorder, level}
use Rattle.counters.specs.Held.{tally, Same, Blind, level_with, has_level, distinct}
use Rattle.counters.proofs.Preorders.{equal_tests, level_parts, level_self, level_symmetric, level_transitive, blind_level, blind_level_of}
use Rattle.counters.proofs.Tallies.{tally_le_length}

-- ---- whether a list has a height level with h

-- level heights are or are not in a list together
pub blind_has_level : {X : Type 0} {le : X → X → Bool} → Preorder le → (xs : List X) → Blind le (has_level le xs)
blind_has_level o [] a b up down = refl
blind_has_level {le = le} o (x ∷ xs) a b up down =
    let e = blind_level_of o x a b up down in
    let f = blind_has_level o xs a b up down in
    cc

-- a list that has a height level with h has it with another before it
later : (a b : Bool) → b ≡ true → cond a true b ≡ true
later true b e = refl
later false b e = e

-- what a list has, it counts
pub has_level_counts : {X : Type 0} (le : X → X → Bool) (xs : List X) (h : X) → has_level le xs h ≡ true → 0 < level_with le xs h
has_level_counts le [] h e = absurd (false≢true e)
has_level_counts le (x ∷ xs) h e = grind (arith, nat_tests, has_level_counts le xs h)

-- what a list counts, it has
pub counts_has_level : {X : Type 0} (le : X → X → Bool) (xs : List X) (h : X) → 0 < level_with le xs h → has_level le xs h ≡ true
counts_has_level le [] h e = absurd (omega arith)
counts_has_level le (x ∷ xs) h e = grind (arith, nat_tests, counts_has_level le xs h)

-- the same heights have or have not a height level with h
pub same_has_level : {X : Type 0} {le : X → X → Bool} → Preorder le → (xs ys : List X) (h : X) → Same le xs ys → has_level le xs h ≡ has_level le ys h
same_has_level {le = le} o xs ys h s =
    let e = s.tallies (λ x. level le x h) (blind_level o h) in
    equal_tests (has_level le xs h) (has_level le ys h)
    (λ t. counts_has_level le ys h (omega (arith, has_level_counts le xs h t, e)))
    (λ t. counts_has_level le xs h (omega (arith, has_level_counts le ys h t, e)))

-- ---- a list without the heights level with h

abbrev without : {X : Type 0} → (X → X → Bool) → X → List X → List X
without le h [] = []
without le h (x ∷ xs) = cond (level le x h) (without le h xs) (x ∷ without le h xs)

has_without_step : {X : Type 0} {le : X → X → Bool} → Preorder le → (h y : X) → level le y h ≡ false → (z : X) (zs : List X) (b : Bool) → level le z h ≡ b
    → has_level le (without le h zs) y ≡ has_level le zs y → has_level le (cond b (without le h zs) (z ∷ without le h zs)) y ≡ has_level le (z ∷ zs) y
has_without_step {le = le} o h y off z zs true e i =
    let f : level le z y ≡ false
    = false_from_ne_true (level le z y) (λ t. both_ways (level le y h) off (level_transitive o y z h (level_symmetric le z y t) e)) in
    rw f i
has_without_step {le = le} o h y off z zs false e i = ap (λ t. cond (level le z y) true t) i

has_without : {X : Type 0} {le : X → X → Bool} → Preorder le → (h y : X) → level le y h ≡ false → (ys : List X) → has_level le (without le h ys) y ≡ has_level le ys y
has_without o h y off [] = refl
has_without {le = le} o h y off (z ∷ zs) = has_without_step o h y off z zs (level le z h) refl (has_without o h y off zs)

distinct_without_step : {X : Type 0} {le : X → X → Bool} → Preorder le → (p : X → Bool) → Blind le p → (h z : X) (zs : List X) (b : Bool) → level le z h ≡ b
    → distinct le p zs ≡ cond (has_level le zs h) (cond (p h) 1 0) 0 + distinct le p (without le h zs)
    → distinct le p (z ∷ zs) ≡ cond (cond b true (has_level le zs h)) (cond (p h) 1 0) 0 + distinct le p (cond b (without le h zs) (z ∷ without le h zs))
distinct_without_step {le = le} o p bl h z zs true e i =
    let u = level_parts le z h e in
    let e1 : has_level le zs z ≡ has_level le zs h = blind_has_level o zs z h u.0 u.1 in
    let e2 : p z ≡ p h = bl z h u.0 u.1 in
    rw (e1, e2) (grind (arith, nat_tests, i))
distinct_without_step {le = le} o p bl h z zs false e i =
    let e1 = has_without o h z e zs in
    rw e1 (omega (arith, i))

-- the distinct heights of a list: h, if the list has one level with it, and those of the rest
distinct_without : {X : Type 0} {le : X → X → Bool} → Preorder le → (p : X → Bool) → Blind le p → (h : X) (ys : List X)
    → distinct le p ys ≡ cond (has_level le ys h) (cond (p h) 1 0) 0 + distinct le p (without le h ys)
distinct_without o p bl h [] = refl
distinct_without {le = le} o p bl h (z ∷ zs) = distinct_without_step o p bl h z zs (level le z h) refl (distinct_without o p bl h zs)

-- ---- more heights, more distinct heights

-- each height of xs is level with one of ys
abbrev pub Within : {X : Type 0} → (X → X → Bool) → List X → List X → Type 0
Within {X} le xs ys = (x : X) → has_level le xs x ≡ true → has_level le ys x ≡ true

distinct_within_step : {X : Type 0} {le : X → X → Bool} → Preorder le → (p : X → Bool) → Blind le p → (x : X) (xs ys : List X) → Within le (x ∷ xs) ys
    → ((zs : List X) → Within le xs zs → distinct le p xs ≤ distinct le p zs)
    → (b : Bool) → has_level le xs x ≡ b → cond b 0 (cond (p x) 1 0) + distinct le p xs ≤ distinct le p ys
distinct_within_step {le = le} o p bl x xs ys f i true e =
    omega (arith, i ys (λ z t. f z (later (level le x z) (has_level le xs z) t)))
distinct_within_step {le = le} o p bl x xs ys f i false e =
    let here : has_level le ys x ≡ true = f x (rw (level_self o x)) in
    let k = distinct_without o p bl x ys in
    let k2 : distinct le p ys ≡ cond (p x) 1 0 + distinct le p (without le x ys) = rw here at k in
    let j = i (without le x ys)
    (λ z t.
    let off : level le z x ≡ false
    = false_from_ne_true (level le z x) (λ l.
    let u = level_parts le z x l in
    both_ways (has_level le xs x) e (sym (blind_has_level o xs z x u.0 u.1) ∙ t)) in
    has_without o x z off ys ∙ f z (later (level le x z) (has_level le xs z) t)) in
    omega (arith, k2, j)

-- a list whose heights are all level with some of another has no more distinct ones
pub distinct_within : {X : Type 0} {le : X → X → Bool} → Preorder le → (p : X → Bool) → Blind le p → (xs ys : List X) → Within le xs ys → distinct le p xs ≤ distinct le p ys
distinct_within o p bl [] ys f = omega arith
distinct_within {le = le} o p bl (x ∷ xs) ys f =
    distinct_within_step o p bl x xs ys f (λ zs g. distinct_within o p bl xs zs g) (has_level le xs x) refl

-- the same heights have equally many distinct ones
pub same_distinct : {X : Type 0} {le : X → X → Bool} → Preorder le → (p : X → Bool) → Blind le p → (xs ys : List X) → Same le xs ys → distinct le p xs ≡ distinct le p ys
same_distinct {le = le} o p bl xs ys s =
    let a = distinct_within o p bl xs ys (λ x t. sym (same_has_level o xs ys x s) ∙ t) in
    let b = distinct_within o p bl ys xs (λ x t. same_has_level o xs ys x s ∙ t) in
    omega arith

-- a list has no fewer distinct heights with one more before it
pub distinct_cons : {X : Type 0} (le : X → X → Bool) (p : X → Bool) (x : X) (xs : List X) → distinct le p xs ≤ distinct le p (x ∷ xs)
distinct_cons le p x xs = omega arith

-- a list has no fewer distinct heights with others before it
pub distinct_append_left : {X : Type 0} (le : X → X → Bool) (p : X → Bool) (xs ys : List X) → distinct le p ys ≤ distinct le p (xs ++ ys)
distinct_append_left le p [] ys = omega arith
distinct_append_left le p (x ∷ xs) ys = omega (arith, distinct_append_left le p xs ys)

-- the distinct heights that pass a test are no more than all that pass it
pub distinct_le_tally : {X : Type 0} (le : X → X → Bool) (p : X → Bool) (xs : List X) → distinct le p xs ≤ tally p xs
distinct_le_tally le p [] = omega arith
distinct_le_tally le p (x ∷ xs) = grind (arith, nat_tests, distinct_le_tally le p xs)

-- the distinct heights are no more than the heights
pub distinct_le_length : {X : Type 0} (le : X → X → Bool) (p : X → Bool) (xs : List X) → distinct le p xs ≤ length xs
distinct_le_length le p xs = omega (arith, distinct_le_tally le p xs, tally_le_length p xs)
