-- Sums over a range of numbers.
use Rattle.std.proofs.Common.{◌≡◌, ℕ, zero, suc, ◌+◌, ◌-◌, ◌<◌, ◌≤◌, Bool, List, map, sym, refl, ap, ◌∙◌, add-zero, zero-add, arith}
use Rattle.std.specs.List.{range_with_len, flat_map}
use Rattle.std.proofs.lemmas.List.Concat.{flat_map-append}
use Rattle.counters.specs.Held.{tally}
use Rattle.counters.proofs.Tallies.{tally_append}

-- f a + f (a + 1) + ..: n numbers
abbrev pub total : (ℕ → ℕ) → ℕ → ℕ → ℕ
total f a zero = 0
total f a (suc n) = f a + total f (a + 1) n

-- sums of equal numbers
pub total_ext : (f g : ℕ → ℕ) (a n : ℕ) → ((i : ℕ) → a ≤ i → i < a + n → f i ≡ g i) → total f a n ≡ total g a n
total_ext f g a zero e = refl
total_ext f g a (suc n) e = omega (arith, e a (omega arith) (omega arith), total_ext f g (a + 1) n (λ i p q. e i (omega arith) (omega arith)))

-- a sum of zeros
pub total_none : (f : ℕ → ℕ) (a n : ℕ) → ((i : ℕ) → a ≤ i → i < a + n → f i ≡ 0) → total f a n ≡ 0
total_none f a zero e = refl
total_none f a (suc n) e = omega (arith, e a (omega arith) (omega arith), total_none f (a + 1) n (λ i p q. e i (omega arith) (omega arith)))

-- a sum in two parts
pub total_split : (f : ℕ → ℕ) (a k l : ℕ) → total f a (k + l) ≡ total f a k + total f (a + k) l
total_split f a zero l = rw (zero-add l, add-zero a) (sym (zero-add (total f a l)))
total_split f a (suc k) l =
    let e : suc k + l ≡ suc (k + l) = omega arith in
    let e2 : a + suc k ≡ a + 1 + k = omega arith in
    rw (e, e2) (omega (arith, total_split f (a + 1) k l))

-- a sum with its last number apart
pub total_last : (f : ℕ → ℕ) (a n : ℕ) → total f a (suc n) ≡ total f a n + f (a + n)
total_last f a n =
    let e : suc n ≡ n + 1 = omega arith in
    ap (total f a) e ∙ omega (arith, total_split f a n 1)

-- a sum that starts elsewhere
pub total_shift : (f : ℕ → ℕ) (a b n : ℕ) → total (λ j. f (a + j)) b n ≡ total f (a + b) n
total_shift f a b zero = refl
total_shift f a b (suc n) =
    let e : a + b + 1 ≡ a + (b + 1) = omega arith in
    rw e (omega (arith, total_shift f a (b + 1) n))

-- a sum from its end
pub total_reverse : (f : ℕ → ℕ) (a n : ℕ) → total (λ j. f (a + (n - 1 - j))) 0 n ≡ total f a n
total_reverse f a zero = refl
total_reverse f a (suc n) =
    let g : ℕ → ℕ = λ j. f (a + (suc n - 1 - j)) in
    let last : total g 0 (suc n) ≡ total g 0 n + g (0 + n) = total_last g 0 n in
    let at : g (0 + n) ≡ f a = (let k : a + (suc n - 1 - (0 + n)) ≡ a = omega arith in ap f k) in
    let same : total g 0 n ≡ total (λ j. f (a + 1 + (n - 1 - j))) 0 n =
    total_ext g (λ j. f (a + 1 + (n - 1 - j))) 0 n (λ i p q. let k : a + (suc n - 1 - i) ≡ a + 1 + (n - 1 - i) = omega arith in ap f k) in
    omega (arith, last, at, same, total_reverse f (a + 1) n)

-- a sum whose numbers are 0 outside a part
pub total_part : (f : ℕ → ℕ) (n lo hi : ℕ) → lo ≤ hi → hi ≤ n → ((i : ℕ) → i < lo → f i ≡ 0) → ((i : ℕ) → hi ≤ i → i < n → f i ≡ 0) → total f 0 n ≡ total f lo (hi - lo)
total_part f n lo hi p q before after =
    let e : n ≡ lo + ((hi - lo) + (n - hi)) = omega arith in
    let s1 = total_split f 0 lo ((hi - lo) + (n - hi)) in
    let s2 = total_split f (0 + lo) (hi - lo) (n - hi) in
    let z1 = total_none f 0 lo (λ i a b. before i (omega arith)) in
    let z2 = total_none f (0 + lo + (hi - lo)) (n - hi) (λ i a b. after i (omega arith) (omega arith)) in
    let l : total f (0 + lo) (hi - lo) ≡ total f lo (hi - lo) = rw zero-add in
    ap (total f 0) e ∙ omega (arith, s1, s2, z1, z2, l)

-- a sum of sums of two
pub total_add : (f g : ℕ → ℕ) (a n : ℕ) → total (λ i. f i + g i) a n ≡ total f a n + total g a n
total_add f g a zero = omega arith
total_add f g a (suc n) = omega (arith, total_add f g (a + 1) n)

-- two sums in either order
pub total_swap : (f : ℕ → ℕ → ℕ) (a m b n : ℕ) → total (λ i. total (λ j. f i j) b n) a m ≡ total (λ j. total (λ i. f i j) a m) b n
total_swap f a zero b n = sym (total_none (λ j. 0) b n (λ i p q. refl))
total_swap f a (suc m) b n =
    ap (λ k. total (λ j. f a j) b n + k) (total_swap f (a + 1) m b n) ∙ sym (total_add (λ j. f a j) (λ j. total (λ i. f i j) (a + 1) m) b n)

-- the tally of lists joined over a range
pub tally_joined : {X : Type 0} (p : X → Bool) (g : ℕ → List X) (a n : ℕ) → tally p (flat_map g (range_with_len a n)) ≡ total (λ x. tally p (g x)) a n
tally_joined p g a zero = refl
tally_joined p g a (suc n) = omega (arith, tally_append p (g a) (flat_map g (range_with_len (a + 1) n)), tally_joined p g (a + 1) n)

-- the tally of lists joined over what a range is mapped to
pub tally_joined_map : {A X : Type 0} (p : X → Bool) (f : A → List X) (g : ℕ → A) (a n : ℕ) → tally p (flat_map f (map g (range_with_len a n))) ≡ total (λ x. tally p (f (g x))) a n
tally_joined_map p f g a zero = refl
tally_joined_map p f g a (suc n) = omega (arith, tally_append p (f (g a)) (flat_map f (map g (range_with_len (a + 1) n))), tally_joined_map p f g (a + 1) n)

-- the tally of lists joined over what is joined over a range
pub tally_joined_joined : {A X : Type 0} (p : X → Bool) (f : A → List X) (g : ℕ → List A) (a n : ℕ) → tally p (flat_map f (flat_map g (range_with_len a n))) ≡ total (λ x. tally p (flat_map f (g x))) a n
tally_joined_joined p f g a zero = refl
tally_joined_joined p f g a (suc n) =
    omega (arith, ap (tally p) (flat_map-append f (g a) (flat_map g (range_with_len (a + 1) n))), tally_append p (flat_map f (g a)) (flat_map f (flat_map g (range_with_len (a + 1) n))), tally_joined_joined p f g (a + 1) n)
