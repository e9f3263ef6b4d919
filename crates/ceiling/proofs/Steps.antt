-- The steps of a finger list along calls, and its mileage after them.
use Rattle.std.proofs.Common.{◌≡◌, ℕ, ◌+◌, ◌^◌, ◌≤◌, Bool, true, false, cond, List, [], ◌∷◌, refl, ap, ◌∙◌, subst, arith}
use Rattle.std.proofs.lemmas.Bool.{false≢true}
use Rattle.heights.specs.Order.{Preorder, level}
use Rattle.counters.specs.Held.{tally, Same, Blind, has_level}
use Rattle.counters.specs.Calls.{Call, put, take, ask, StepRule, unstated, shifting, waiting, fingers, View, mileage_after, finger_steps, rule_after, rule_begun, Steps, begun, Ran, still, next}
use Rattle.counters.proofs.Preorders.{level_parts}
use Rattle.counters.proofs.Tallies.{same_refl, same_sym, same_trans, same_cons, held_level}
use Rattle.counters.proofs.Classes.{counts_has_level}
use Rattle.counters.proofs.Rules.{same_finger_steps}
use Rattle.counters.specs.Fingers.{by_fingers}

-- a list without one height that is level with h
abbrev pub less_one : {X : Type 0} → (X → X → Bool) → X → List X → List X
less_one le h [] = []
less_one le h (x ∷ xs) = cond (level le x h) xs (x ∷ less_one le h xs)

-- the steps of a finger list along calls: its fingers for put, take and ask stand at p, t and a, and it holds xs
abbrev pub steps_along : {X : Type 0} → (X → X → Bool) → (p t a : X) → List X → List (Call X) → ℕ
steps_along le p t a xs [] = 0
steps_along le p t a xs (put h ∷ calls) = finger_steps le xs p h + steps_along le h t a (h ∷ xs) calls
steps_along le p t a xs (take h ∷ calls) = finger_steps le xs t h + steps_along le p h a (less_one le h xs) calls
steps_along le p t a xs (ask h ∷ calls) = finger_steps le xs a h + steps_along le p t h xs calls

less_step : {X : Type 0} {le : X → X → Bool} (p : X → Bool) → Blind le p → (h x : X) (xs : List X) (b : Bool) → level le x h ≡ b
    → cond b true (has_level le xs h) ≡ true → (has_level le xs h ≡ true → tally p xs ≡ cond (p h) 1 0 + tally p (less_one le h xs))
    → cond (p x) 1 0 + tally p xs ≡ cond (p h) 1 0 + tally p (cond b xs (x ∷ less_one le h xs))
less_step {X} {le = le} p bl h x xs true e t i =
    let u = level_parts le x h e in
    let f : Bool → ℕ = λ c. cond c 1 0 in
    omega (arith, ap f (bl x h u.0 u.1))
less_step p bl h x xs false e t i = omega (arith, i t)

-- a list that has a height level with h counts as h and the list without one
less_tally : {X : Type 0} {le : X → X → Bool} (p : X → Bool) → Blind le p → (h : X) (xs : List X) → has_level le xs h ≡ true → tally p xs ≡ cond (p h) 1 0 + tally p (less_one le h xs)
less_tally p bl h [] e = absurd (false≢true e)
less_tally {le = le} p bl h (x ∷ xs) e = less_step p bl h x xs (level le x h) refl e (less_tally p bl h xs)

-- what is left of a list once h is taken
less_same : {X : Type 0} {le : X → X → Bool} → Preorder le → (h : X) (xs ys : List X) → Same le xs (h ∷ ys) → Same le ys (less_one le h xs)
less_same {le = le} o h xs ys s =
    let has = counts_has_level le xs h (held_level o xs ys h s) in
    record { tallies = λ p bl. omega (arith, s.tallies p bl, less_tally p bl h xs has) }

-- the mileage of a finger list after calls
run_mileage : {X : Type 0} {le : X → X → Bool} {v w : View X} {calls : List (Call X)} → Preorder le → (p t a : X) (xs : List X)
    → Ran le v calls w → v.rule ≡ fingers p t a → Same le v.held xs → v.mileage ≤ 2 ^ 62 → w.mileage ≡ mileage_after v.mileage (steps_along le p t a xs calls)
run_mileage o p t a xs still g s l = omega arith
run_mileage {le = le} o p t a xs (next {v = v} {u = u} {call = put h} {calls = calls} k d r) g s l =
    let c : k ≡ finger_steps le v.held p h = subst (λ e. Steps le e v.held (put h) k) g d.exact in
    let g2 : u.rule ≡ fingers h t a = d.rule ∙ ap (λ e. rule_after e (put h)) g in
    let i = run_mileage o h t a (h ∷ xs) r g2 (same_trans d.held (same_cons h s)) (omega (arith, d.mileage)) in
    omega (arith, i, c, d.mileage, same_finger_steps o v.held xs p h s)
run_mileage {le = le} o p t a xs (next {v = v} {u = u} {call = take h} {calls = calls} k d r) g s l =
    let c : k ≡ finger_steps le v.held t h = subst (λ e. Steps le e v.held (take h) k) g d.exact in
    let g2 : u.rule ≡ fingers p h a = d.rule ∙ ap (λ e. rule_after e (take h)) g in
    let i = run_mileage o p h a (less_one le h xs) r g2 (less_same o h xs u.held (same_trans (same_sym s) d.held)) (omega (arith, d.mileage)) in
    omega (arith, i, c, d.mileage, same_finger_steps o v.held xs t h s)
run_mileage {le = le} o p t a xs (next {v = v} {u = u} {call = ask h} {calls = calls} k d r) g s l =
    let c : k ≡ finger_steps le v.held a h = subst (λ e. Steps le e v.held (ask h) k) g d.exact in
    let g2 : u.rule ≡ fingers p t h = d.rule ∙ ap (λ e. rule_after e (ask h)) g in
    let i = run_mileage o p t h xs r g2 (same_trans d.held s) (omega (arith, d.mileage)) in
    omega (arith, i, c, d.mileage, same_finger_steps o v.held xs a h s)

-- where the fingers of a finger list stand once begun
rule_begun_fingers : {X : Type 0} (rule : StepRule X) (first asked : X) → by_fingers rule ≡ true → rule_begun rule first asked ≡ fingers first first asked
rule_begun_fingers unstated first asked f = absurd (false≢true f)
rule_begun_fingers shifting first asked f = absurd (false≢true f)
rule_begun_fingers waiting first asked f = refl
rule_begun_fingers (fingers p t a) first asked f = refl

-- the mileage of a finger list that was begun and then called
pub begun_mileage : {X : Type 0} {le : X → X → Bool} → Preorder le → (v w : View X) (first asked : X) (calls : List (Call X)) → by_fingers v.rule ≡ true
    → Ran le (begun v first asked) calls w → w.mileage ≡ mileage_after 0 (steps_along le first first asked [] calls)
begun_mileage {le = le} o v w first asked calls f r =
    run_mileage o first first asked [] r (rule_begun_fingers v.rule first asked f) (same_refl le []) (omega arith)
