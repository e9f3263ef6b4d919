-- The steps that the rules name are the same over lists that hold the same heights.
use Rattle.std.proofs.Common.{◌≡◌, Bool, eqb, List, refl, ap}
use Rattle.heights.specs.Order.{Preorder}
use Rattle.counters.specs.Held.{Same, above, between}
use Rattle.counters.specs.Calls.{Call, put, take, ask, shift_steps, finger_steps, move_steps}
use Rattle.counters.proofs.Preorders.{blind_above, blind_between}
use Rattle.counters.proofs.Tallies.{same_level_with}
use Rattle.counters.proofs.Classes.{same_has_level, same_distinct}

-- a shift array's steps are the same over the same heights
pub same_shift_steps : {X : Type 0} {le : X → X → Bool} → Preorder le → (xs ys : List X) (call : Call X) → Same le xs ys → shift_steps le xs call ≡ shift_steps le ys call
same_shift_steps {le = le} o xs ys (put h) s =
    let e = same_has_level o xs ys h s in
    let f = same_distinct o (above le h) (blind_above o h) xs ys s in
    cc
same_shift_steps {le = le} o xs ys (take h) s =
    let e = ap (λ n. eqb n 1) (same_level_with o xs ys h s) in
    let f = same_distinct o (above le h) (blind_above o h) xs ys s in
    cc
same_shift_steps o xs ys (ask h) s = refl

-- the steps of a finger are the same over the same heights
pub same_finger_steps : {X : Type 0} {le : X → X → Bool} → Preorder le → (xs ys : List X) (a b : X) → Same le xs ys → finger_steps le xs a b ≡ finger_steps le ys a b
same_finger_steps {le = le} o xs ys a b s = same_distinct o (between le a b) (blind_between o a b) xs ys s

-- a finger list's steps are the same over the same heights
pub same_move_steps : {X : Type 0} {le : X → X → Bool} → Preorder le → (p t a : X) (xs ys : List X) (call : Call X) → Same le xs ys → move_steps le p t a xs call ≡ move_steps le p t a ys call
same_move_steps o p t a xs ys (put h) s = same_finger_steps o xs ys p h s
same_move_steps o p t a xs ys (take h) s = same_finger_steps o xs ys t h s
same_move_steps o p t a xs ys (ask h) s = same_finger_steps o xs ys a h s
