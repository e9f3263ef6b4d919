-- The used entries after a copy of some of them to the next place.
use Rattle.std.proofs.Common.{◌≡◌, ℕ, ◌+◌, ◌-◌, ◌<◌, ◌≤◌, List, [], ◌∷◌, ◌++◌, length, get_or, take, drop, set, sym, ap, ◌∙◌, append_assoc, add-one, arith}
use lib.Seq.{take-set-lt}
use Rattle.std.specs.List.{insert, remove, copy_within}
use Rattle.std.proofs.lemmas.List.{length-drop, length-take-le, set_at, take_more, take-take}
use Rattle.std.proofs.lemmas.List.Edits.{take-paste}
use Rattle.std.proofs.lemmas.Slice.{between_is}

-- the entries from a place on are copied up, and the new entry is written
pub inserted : {X : Type 0} (xs : List X) (at used : ℕ) (e : X) → at ≤ used → used < length xs
    → take (used + 1) (set (copy_within xs at used (at + 1)) at e) ≡ insert (take used xs) at e
inserted xs at used e low room =
    let n = used - at in
    let zs = take n (drop at xs) in
    let long : used + 1 ≡ at + 1 + n = omega arith in
    take-set-lt (used + 1) (copy_within xs at used (at + 1)) at e (omega arith)
    ∙ ap (λ l. set l at e)
    (ap (λ m. take m (copy_within xs at used (at + 1))) long
    ∙ take-paste xs (at + 1) (drop at xs) n (omega arith) (omega (arith, length-drop at xs))
    ∙ ap (λ l. l ++ zs) (take_more xs at e (omega arith))
    ∙ append_assoc (take at xs) (get_or xs at e ∷ []) zs)
    ∙ set_at (take at xs) (get_or xs at e) zs e at (length-take-le at xs (omega arith))
    ∙ ap (λ l. l ++ e ∷ zs) (sym (take-take at used xs low))
    ∙ ap (λ l. take at (take used xs) ++ e ∷ l) (between_is xs at used)

-- the entries above a place are copied down
pub removed : {X : Type 0} (xs : List X) (at used : ℕ) → at < used → used ≤ length xs
    → take (used - 1) (copy_within xs (at + 1) used at) ≡ remove (take used xs) at
removed xs at used low within =
    let n = used - (at + 1) in
    let long : used - 1 ≡ at + n = omega arith in
    ap (λ m. take m (copy_within xs (at + 1) used at)) long
    ∙ take-paste xs at (drop (at + 1) xs) n (omega arith) (omega (arith, length-drop (at + 1) xs))
    ∙ ap (λ l. l ++ take n (drop (at + 1) xs)) (sym (take-take at used xs (omega arith)))
    ∙ ap (λ l. take at (take used xs) ++ l) (between_is xs (at + 1) used ∙ ap (λ m. drop m (take used xs)) (add-one at))
