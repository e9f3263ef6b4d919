-- Level heights in each other's place: in answers and as places of a finger.
use Rattle.std.proofs.Common.{◌≡◌, ℕ, ◌+◌, Bool, true, false, cond, not, ◌&&◌, List, [], ◌∷◌, sym, refl, ap, arith}
use Rattle.heights.specs.Order.{Preorder, level}
use Rattle.counters.specs.Held.{tally, up_to, has_level, distinct, between}
use Rattle.counters.specs.Calls.{finger_steps}
use Rattle.counters.proofs.Preorders.{level_parts, blind_up_to, blind_from}

-- ---- tests that agree at every height

-- they count the same
pub tally_agree : {X : Type 0} (p q : X → Bool) → ((x : X) → p x ≡ q x) → (xs : List X) → tally p xs ≡ tally q xs
tally_agree p q e [] = refl
tally_agree p q e (x ∷ xs) =
    let f : Bool → ℕ = λ t. cond t 1 0 in
    omega (arith, ap f (e x), tally_agree p q e xs)

-- they count the same distinct heights
pub distinct_agree : {X : Type 0} (le : X → X → Bool) (p q : X → Bool) → ((x : X) → p x ≡ q x) → (xs : List X) → distinct le p xs ≡ distinct le q xs
distinct_agree le p q e [] = refl
distinct_agree le p q e (x ∷ xs) =
    let f : Bool → ℕ = λ t. cond (has_level le xs x) 0 (cond t 1 0) in
    omega (arith, ap f (e x), distinct_agree le p q e xs)

none_more : (b : Bool) (n : ℕ) → n ≡ 0 → cond b 0 (cond false 1 0) + n ≡ 0
none_more true n e = omega arith
none_more false n e = omega arith

-- a test that never passes counts no distinct height
pub distinct_never : {X : Type 0} (le : X → X → Bool) (p : X → Bool) → ((x : X) → p x ≡ false) → (xs : List X) → distinct le p xs ≡ 0
distinct_never le p e [] = refl
distinct_never le p e (x ∷ xs) = rw (e x) (none_more (has_level le xs x) (distinct le p xs) (distinct_never le p e xs))

-- ---- level heights

-- as many heights are not higher than either
pub up_to_level : {X : Type 0} {le : X → X → Bool} → Preorder le → (xs : List X) (a b : X) → level le a b ≡ true → up_to le xs a ≡ up_to le xs b
up_to_level {le = le} o xs a b l =
    let u = level_parts le a b l in
    tally_agree (λ x. le x a) (λ x. le x b) (λ x. blind_from o x a b u.0 u.1) xs

never_both : (t : Bool) → (not t && t) ≡ false
never_both true = refl
never_both false = refl

-- no height lies above the lower of two level heights and not above the higher
between_level : {X : Type 0} {le : X → X → Bool} → Preorder le → (a b : X) → level le a b ≡ true → (x : X) → between le a b x ≡ false
between_level {le = le} o a b l x =
    let u = level_parts le a b l in
    let e : le a b ≡ true = u.0 in
    let f : le x b ≡ le x a = sym (blind_from o x a b u.0 u.1) in
    rw (e, f) (never_both (le x a))

-- a finger that goes to a level height takes no step
pub finger_stays : {X : Type 0} {le : X → X → Bool} → Preorder le → (held : List X) (a b : X) → level le a b ≡ true → finger_steps le held a b ≡ 0
finger_stays {le = le} o held a b l = distinct_never le (between le a b) (between_level o a b l) held

-- from level heights a finger takes the same steps
pub finger_from_level : {X : Type 0} {le : X → X → Bool} → Preorder le → (held : List X) (a b h : X) → level le a b ≡ true → finger_steps le held a h ≡ finger_steps le held b h
finger_from_level {le = le} o held a b h l =
    let u = level_parts le a b l in
    distinct_agree le (between le a h) (between le b h) (λ x.
    let e : le a h ≡ le b h = blind_up_to o h a b u.0 u.1 in
    let f : le x a ≡ le x b = blind_from o x a b u.0 u.1 in
    cc) held
