-- Tallies of lists, and lists that hold the same heights.
use Rattle.std.proofs.Common.{◌≡◌, ℕ, ◌<◌, Bool, true, cond, List, ◌∷◌, ◌++◌, length, sym, refl, ap, ◌∙◌, arith}
use Rattle.heights.specs.Order.{Preorder, level}
pub use Rattle.heights.proofs.Tallying.{tally_append, tally_always, tally_le_length}
use Rattle.counters.specs.Held.{tally, Same, up_to, level_with}
use Rattle.counters.proofs.Preorders.{blind_always, blind_up_to, blind_level, level_parts, level_self}

-- a list holds the same heights as itself
pub same_refl : {X : Type 0} (le : X → X → Bool) (xs : List X) → Same le xs xs
same_refl le xs = record { tallies = λ p b. refl }

-- "the same heights" goes both ways
pub same_sym : {X : Type 0} {le : X → X → Bool} {xs ys : List X} → Same le xs ys → Same le ys xs
same_sym s = record { tallies = λ p b. sym (s.tallies p b) }

-- the same heights as a list that holds the same as a third
pub same_trans : {X : Type 0} {le : X → X → Bool} {xs ys zs : List X} → Same le xs ys → Same le ys zs → Same le xs zs
same_trans s t = record { tallies = λ p b. s.tallies p b ∙ t.tallies p b }

-- equal lists hold the same heights
pub same_equal : {X : Type 0} (le : X → X → Bool) {xs ys : List X} → xs ≡ ys → Same le xs ys
same_equal le e = record { tallies = λ p b. ap (tally p) e }

-- one height more on both sides
pub same_cons : {X : Type 0} {le : X → X → Bool} {xs ys : List X} (h : X) → Same le xs ys → Same le (h ∷ xs) (h ∷ ys)
same_cons h s = record { tallies = λ p b. omega (arith, s.tallies p b) }

-- one height less on both sides
pub same_uncons : {X : Type 0} {le : X → X → Bool} {xs ys : List X} (h : X) → Same le (h ∷ xs) (h ∷ ys) → Same le xs ys
same_uncons h s = record { tallies = λ p b. omega (arith, s.tallies p b) }

-- level heights in each other's place
pub same_level : {X : Type 0} (le : X → X → Bool) (a b : X) (xs : List X) → level le a b ≡ true → Same le (a ∷ xs) (b ∷ xs)
same_level {X} le a b xs e =
    let u = level_parts le a b e in
    let f : Bool → ℕ = λ t. cond t 1 0 in
    record { tallies = λ p bl. omega (arith, ap f (bl a b u.0 u.1)) }

-- the first two heights change places
pub same_swap : {X : Type 0} (le : X → X → Bool) (a b : X) (xs : List X) → Same le (a ∷ b ∷ xs) (b ∷ a ∷ xs)
same_swap le a b xs = record { tallies = λ p bl. omega arith }

-- the same heights followed by the same
pub same_append : {X : Type 0} {le : X → X → Bool} {xs ys us vs : List X} → Same le xs ys → Same le us vs → Same le (xs ++ us) (ys ++ vs)
same_append {xs = xs} {ys = ys} {us = us} {vs = vs} s t =
    record { tallies = λ p b. omega (arith, s.tallies p b, t.tallies p b, tally_append p xs us, tally_append p ys vs) }

-- the same heights after a list
pub same_append_left : {X : Type 0} {le : X → X → Bool} {us vs : List X} (xs : List X) → Same le us vs → Same le (xs ++ us) (xs ++ vs)
same_append_left {le = le} xs s = same_append (same_refl le xs) s

-- the same heights before a list
pub same_append_right : {X : Type 0} {le : X → X → Bool} {xs ys : List X} (us : List X) → Same le xs ys → Same le (xs ++ us) (ys ++ us)
same_append_right {le = le} us s = same_append s (same_refl le us)

-- two lists in a row hold the same in either order
pub same_append_swap : {X : Type 0} (le : X → X → Bool) (xs ys : List X) → Same le (xs ++ ys) (ys ++ xs)
same_append_swap le xs ys = record { tallies = λ p b. omega (arith, tally_append p xs ys, tally_append p ys xs) }

-- a height between two lists may stand before both
pub same_middle : {X : Type 0} (le : X → X → Bool) (xs : List X) (h : X) (ys : List X) → Same le (xs ++ h ∷ ys) (h ∷ (xs ++ ys))
same_middle le xs h ys = record { tallies = λ p b. omega (arith, tally_append p xs (h ∷ ys), tally_append p xs ys) }

-- the same heights are equally many
pub same_length : {X : Type 0} (le : X → X → Bool) (xs ys : List X) → Same le xs ys → length xs ≡ length ys
same_length le xs ys s = sym (tally_always xs) ∙ s.tallies (λ _. true) (blind_always le) ∙ tally_always ys

-- of the same heights equally many are not higher than h
pub same_up_to : {X : Type 0} {le : X → X → Bool} → Preorder le → (xs ys : List X) (h : X) → Same le xs ys → up_to le xs h ≡ up_to le ys h
same_up_to {le = le} o xs ys h s = s.tallies (λ x. le x h) (blind_up_to o h)

-- of the same heights equally many are level with h
pub same_level_with : {X : Type 0} {le : X → X → Bool} → Preorder le → (xs ys : List X) (h : X) → Same le xs ys → level_with le xs h ≡ level_with le ys h
same_level_with {le = le} o xs ys h s = s.tallies (λ x. level le x h) (blind_level o h)

-- what holds the heights of a list and h too has one level with h
pub held_level : {X : Type 0} {le : X → X → Bool} → Preorder le → (xs ys : List X) (h : X) → Same le xs (h ∷ ys) → 0 < level_with le xs h
held_level {le = le} o xs ys h s =
    let f : Bool → ℕ = λ t. cond t 1 0 in
    omega (arith, same_level_with o xs (h ∷ ys) h s, ap f (level_self o h))
