-- Lists joined over a range of numbers.
use Rattle.std.proofs.Common.{◌≡◌, ℕ, zero, suc, ◌+◌, ◌-◌, ◌*◌, ◌≤◌, List, ◌++◌, length, sym, ap, ◌∙◌, add-zero, add-mul, zero-add, arith, length-append}
use Rattle.std.specs.List.{range_with_len, flat_map}
use Rattle.std.proofs.lemmas.List.{append-nil, append_assoc}

-- a range in two parts
pub joined_split : {X : Type 0} (f : ℕ → List X) (a k l : ℕ) → flat_map f (range_with_len a (k + l)) ≡ flat_map f (range_with_len a k) ++ flat_map f (range_with_len (a + k) l)
joined_split f a zero l = rw (zero-add, add-zero)
joined_split f a (suc k) l =
    let e : suc k + l ≡ suc (k + l) = omega arith in
    let e2 : a + suc k ≡ a + 1 + k = omega arith in
    rw (e, e2, joined_split f (a + 1) k l) (sym (append_assoc (f a) (flat_map f (range_with_len (a + 1) k)) (flat_map f (range_with_len (a + 1 + k) l))))

-- the range from a to just before z, in two parts at b
pub joined_range : {X : Type 0} (f : ℕ → List X) (a b z : ℕ) → a ≤ b → b ≤ z → flat_map f (range_with_len a (z - a)) ≡ flat_map f (range_with_len a (b - a)) ++ flat_map f (range_with_len b (z - b))
joined_range f a b z p q =
    let e1 : z - a ≡ (b - a) + (z - b) = omega arith in
    let e2 : a + (b - a) ≡ b = omega arith in
    rw (e1, joined_split f a (b - a) (z - b), e2)

-- a range of n numbers, with the next, x
pub joined_next : {X : Type 0} (f : ℕ → List X) (a n m x : ℕ) → x ≡ a + n → m ≡ n + 1 → flat_map f (range_with_len a m) ≡ flat_map f (range_with_len a n) ++ f x
joined_next f a n m x at more = rw (more, at, joined_split f a n 1, append-nil (f (a + n)))

-- lists of at most n elements, joined
pub length_joined_le : {X : Type 0} (f : ℕ → List X) (n : ℕ) → ((x : ℕ) → length (f x) ≤ n) → (a k : ℕ) → length (flat_map f (range_with_len a k)) ≤ k * n
length_joined_le f n few a zero = omega arith
length_joined_le f n few a (suc k) =
    let e : suc k ≡ k + 1 = omega arith in
    let m : suc k * n ≡ k * n + n = ap (λ i. i * n) e ∙ omega (arith, add-mul k 1 n) in
    omega (arith, length-append (f a) (flat_map f (range_with_len (a + 1) k)), few a, length_joined_le f n few (a + 1) k, m)
