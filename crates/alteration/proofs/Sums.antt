-- Sums of which one number changes, and tallies as sums.
use Rattle.std.proofs.Common.{◌≡◌, ℕ, zero, suc, ◌+◌, ◌<◌, ◌≤◌, Bool, cond, List, map, refl, ap, ◌∙◌, ⊎_elim, eq-or-lt_of_le, arith}
use Rattle.std.specs.List.{range_with_len, flat_map}
use Rattle.heights.specs.Tally.{tally}
use Rattle.heights.proofs.Tallying.{tally_append}
use Rattle.sweep.proofs.Lists.{joined_next}
use Rattle.sweep.proofs.Totals.{total, total_ext}

-- a sum changes by its one changed number
pub total_change : (f g : ℕ → ℕ) (a n i : ℕ) → a ≤ i → i < a + n → ((k : ℕ) → a ≤ k → k < a + n → (k ≡ i → ⊥) → f k ≡ g k) → total g a n + f i ≡ total f a n + g i
total_change f g a zero i p q e = absurd (omega arith)
total_change f g a (suc n) i p q e =
    ⊎_elim
    (λ (h : a ≡ i). let tail = total_ext f g (a + 1) n (λ k u v. e k (omega arith) (omega arith) (λ z. omega arith)) in omega (arith, tail, ap f h, ap g h))
    (λ (h : a < i). omega (arith, e a (omega arith) (omega arith) (λ z. omega arith), total_change f g (a + 1) n i (omega arith) (omega arith) (λ k u v. e k (omega arith) (omega arith))))
    (eq-or-lt_of_le p)

-- a sum of sums changes by its one changed number
pub grid_change : (f g : ℕ → ℕ → ℕ) (w m x y : ℕ) → x < w → y < m → ((a b : ℕ) → a < w → ((a ≡ x) × (b ≡ y) → ⊥) → f a b ≡ g a b)
    → total (λ b. total (λ a. g a b) 0 w) 0 m + f x y ≡ total (λ b. total (λ a. f a b) 0 w) 0 m + g x y
grid_change f g w m x y inx iny e =
    let rows = total_change (λ b. total (λ a. f a b) 0 w) (λ b. total (λ a. g a b) 0 w) 0 m y (omega arith) (omega arith)
    (λ k u v ne. total_ext (λ a. f a k) (λ a. g a k) 0 w (λ a s t. e a k (omega arith) (λ z. ne z.1))) in
    let row = total_change (λ a. f a y) (λ a. g a y) 0 w x (omega arith) (omega arith) (λ a s t ne. e a y (omega arith) (λ z. ne z.0)) in
    omega (arith, rows, row)

-- the tally of a range
pub tally_range : (p : ℕ → Bool) (a n : ℕ) → tally p (range_with_len a n) ≡ total (λ i. cond (p i) 1 0) a n
tally_range p a zero = refl
tally_range p a (suc n) = ap (λ k. cond (p a) 1 0 + k) (tally_range p (a + 1) n)

-- the tally of what a range is mapped to
pub tally_map_range : {X : Type 0} (p : X → Bool) (f : ℕ → X) (a n : ℕ) → tally p (map f (range_with_len a n)) ≡ total (λ i. cond (p (f i)) 1 0) a n
tally_map_range p f a zero = refl
tally_map_range p f a (suc n) = ap (λ k. cond (p (f a)) 1 0 + k) (tally_map_range p f (a + 1) n)

-- the tally of the lists joined over n numbers, with that at the next
pub joined_tally_next : (p : ℕ → Bool) (f : ℕ → List ℕ) (a n m y : ℕ) → y ≡ a + n → m ≡ n + 1 → tally p (flat_map f (range_with_len a m)) ≡ tally p (flat_map f (range_with_len a n)) + tally p (f y)
joined_tally_next p f a n m y at more = ap (tally p) (joined_next f a n m y at more) ∙ tally_append p (flat_map f (range_with_len a n)) (f y)
