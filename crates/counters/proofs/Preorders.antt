-- What the laws of an order of heights give: reflexivity, level heights, and the tests that do not tell level heights apart.
use Rattle.std.proofs.Common.{◌≡◌, Bool, true, false, not, refl, ap, ⊎_elim, arith}
use Rattle.std.proofs.lemmas.Bool.{both_ways, and_parts, and_from}
use Rattle.std.proofs.lemmas.Bool.Decides.{nat_tests}
use Rattle.heights.specs.Order.{Preorder, level}
use Rattle.counters.specs.Held.{Blind, above, between}

-- two tests that follow from one another are equal
pub equal_tests : (a b : Bool) → (a ≡ true → b ≡ true) → (b ≡ true → a ≡ true) → a ≡ b
equal_tests a b f g = grind (arith, nat_tests, f, g)

-- no height is higher than itself
pub reflexive : {X : Type 0} {le : X → X → Bool} → Preorder le → (a : X) → le a a ≡ true
reflexive {le = le} o a = ⊎_elim (λ (t : le a a ≡ true). t) (λ (t : le a a ≡ true). t) (o.total a a)

-- a height that is higher than another has the other not higher than itself
pub other_way : {X : Type 0} {le : X → X → Bool} → Preorder le → (a b : X) → le a b ≡ false → le b a ≡ true
other_way {le = le} o a b off =
    ⊎_elim (λ (t : le a b ≡ true). absurd (both_ways (le a b) off t)) (λ (t : le b a ≡ true). t) (o.total a b)

-- of level heights neither is higher
pub level_parts : {X : Type 0} (le : X → X → Bool) (a b : X) → level le a b ≡ true → (le a b ≡ true) × (le b a ≡ true)
level_parts le a b e = and_parts (le a b) (le b a) e

-- heights of which neither is higher are level
pub level_from : {X : Type 0} (le : X → X → Bool) (a b : X) → le a b ≡ true → le b a ≡ true → level le a b ≡ true
level_from le a b up down = and_from (le a b) (le b a) up down

-- a height is level with itself
pub level_self : {X : Type 0} {le : X → X → Bool} → Preorder le → (a : X) → level le a a ≡ true
level_self {le = le} o a = level_from le a a (reflexive o a) (reflexive o a)

-- level goes both ways
pub level_symmetric : {X : Type 0} (le : X → X → Bool) (a b : X) → level le a b ≡ true → level le b a ≡ true
level_symmetric le a b e = let u = level_parts le a b e in level_from le b a u.1 u.0

-- a height level with one that is level with a third is level with the third
pub level_transitive : {X : Type 0} {le : X → X → Bool} → Preorder le → (a b c : X) → level le a b ≡ true → level le b c ≡ true → level le a c ≡ true
level_transitive {le = le} o a b c p q =
    let u = level_parts le a b p in
    let v = level_parts le b c q in
    level_from le a c (o.transitive a b c u.0 v.0) (o.transitive c b a v.1 u.1)

-- a test that always passes tells no heights apart
pub blind_always : {X : Type 0} (le : X → X → Bool) → Blind le (λ _. true)
blind_always le a b up down = refl

-- the test "not higher than h" does not tell level heights apart
pub blind_up_to : {X : Type 0} {le : X → X → Bool} → Preorder le → (h : X) → Blind le (λ x. le x h)
blind_up_to {le = le} o h a b up down = equal_tests (le a h) (le b h) (λ t. o.transitive b a h down t) (λ t. o.transitive a b h up t)

-- the test "h is not higher" does not tell level heights apart
pub blind_from : {X : Type 0} {le : X → X → Bool} → Preorder le → (h : X) → Blind le (λ x. le h x)
blind_from {le = le} o h a b up down = equal_tests (le h a) (le h b) (λ t. o.transitive h a b t up) (λ t. o.transitive h b a t down)

-- the test "level with h" does not tell level heights apart
pub blind_level : {X : Type 0} {le : X → X → Bool} → Preorder le → (h : X) → Blind le (λ x. level le x h)
blind_level {le = le} o h a b up down = let e = blind_up_to o h a b up down in let f = blind_from o h a b up down in cc

-- the test "h is level with it" does not tell level heights apart
pub blind_level_of : {X : Type 0} {le : X → X → Bool} → Preorder le → (h : X) → Blind le (λ x. level le h x)
blind_level_of {le = le} o h a b up down = let e = blind_up_to o h a b up down in let f = blind_from o h a b up down in cc

-- the test "above h" does not tell level heights apart
pub blind_above : {X : Type 0} {le : X → X → Bool} → Preorder le → (h : X) → Blind le (above le h)
blind_above o h a b up down = ap not (blind_up_to o h a b up down)

-- the test "above the lower of two heights and not above the higher" does not tell level heights apart
pub blind_between : {X : Type 0} {le : X → X → Bool} → Preorder le → (c d : X) → Blind le (between le c d)
blind_between {le = le} o c d a b up down = let e = blind_up_to o c a b up down in let f = blind_up_to o d a b up down in cc
