-- The room after a text.
use Rattle.std.proofs.Common.{◌≡◌, ℕ, ◌+◌, ◌-◌, List, drop, replicate, sym, ap, ◌∙◌, subst, arith}
use Rattle.std.proofs.lemmas.List.{drop-drop, drop-replicate}

-- where zeros fill a room of n from i on, they fill it from i + k on
pub zeros_from : (xs : List ℕ) (n i k : ℕ) → drop i xs ≡ replicate (n - i) 0 → drop (i + k) xs ≡ replicate (n - (i + k)) 0
zeros_from xs n i k h =
    let zeros : drop k (drop i xs) ≡ replicate (n - i - k) 0 = ap (λ t. drop k t) h ∙ drop-replicate k (n - i) 0 in
    let left : n - i - k ≡ n - (i + k) = omega arith in
    sym (drop-drop k i xs) ∙ subst (λ m. drop k (drop i xs) ≡ replicate m 0) left zeros
