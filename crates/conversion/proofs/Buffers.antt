-- Stored heights that are read two bytes at a time, and the buffer that the converted ones are written to.
use Rattle.std.proofs.Common.{◌≡◌, replicate, ℕ, zero, suc, ◌+◌, ◌*◌, ◌/◌, ◌%◌, ◌<◌, ◌≤◌, ◌-◌, List, [], ◌++◌, length, get_or, take, drop, ℤ, sym, ap, ◌∙◌, subst, arith, w16, SFits, to_z, of_z}
use Rattle.std.specs.Simd.{first_chunks}
use Rattle.std.proofs.lemmas.List.{get_or-take, get_or-drop, get_or_append_left, get_or-append_right, get_or-replicate, length-take-le, length-drop, length-append, length-replicate, ext_get_or}
use Rattle.std.proofs.lemmas.Int.{to_z-of_z}
use Rattle.conversion.specs.Metres.{IsMetres}
use Rattle.conversion.specs.Converting.{metres_at, pattern_at, Converted}

-- a byte of one of the first pairs of bytes
pair_byte : (n i j : ℕ) (bytes : List ℕ) → i < n → j < 2 → get_or (get_or (first_chunks 2 n bytes) i []) j 0 ≡ get_or bytes (i * 2 + j) 0
pair_byte zero i j bytes h l = absurd (let none : ⊥ = omega arith in none)
pair_byte (suc n) zero j bytes h l = get_or-take 2 bytes j 0 l ∙ ap (λ k. get_or bytes k 0) (omega arith)
pair_byte (suc n) (suc i) j bytes h l = pair_byte n i j (drop 2 bytes) (omega arith) l ∙ get_or-drop 2 bytes (i * 2 + j) 0 ∙ ap (λ k. get_or bytes k 0) (omega arith)

-- one of the pairs of bytes read as the metres that they store
pub pair_metres :
    (whole : List ℕ) (pairs : List (List ℕ)) (i : ℕ)
    → pairs ≡ first_chunks 2 (length whole / 2) whole
    → i < length whole / 2
    → to_z w16 (get_or (get_or pairs i []) 0 0 * 256 + get_or (get_or pairs i []) 1 0) ≡ metres_at whole i
pair_metres whole pairs i is h =
    let start : i * 2 + 0 ≡ i * 2 = omega arith in
    let first = pair_byte (length whole / 2) i 0 whole h (omega arith) ∙ ap (λ k. get_or whole k 0) start in
    let second = pair_byte (length whole / 2) i 1 whole h (omega arith) in
    rw is (ap (to_z w16) (omega (arith, first, second)))

-- patterns are the same where their bytes are
pattern_same : (bytes bytes' : List ℕ) (n i : ℕ) → ((k : ℕ) → k < n → get_or bytes k 0 ≡ get_or bytes' k 0) → i * 4 + 4 ≤ n → pattern_at bytes i ≡ pattern_at bytes' i
pattern_same bytes bytes' n i same h =
    omega (arith, same (i * 4) (omega arith), same (i * 4 + 1) (omega arith), same (i * 4 + 2) (omega arith), same (i * 4 + 3) (omega arith))

-- a pattern stays the number of its metres where its bytes stay
pub metres_same :
    (whole bytes bytes' : List ℕ) (n i : ℕ)
    → ((k : ℕ) → k < n → get_or bytes k 0 ≡ get_or bytes' k 0)
    → i * 4 + 4 ≤ n
    → IsMetres (pattern_at bytes' i) (metres_at whole i)
    → IsMetres (pattern_at bytes i) (metres_at whole i)
metres_same whole bytes bytes' n i same h = subst (λ (p : ℕ). IsMetres p (metres_at whole i)) (sym (pattern_same bytes bytes' n i same h))

-- the pattern of a number of metres is stored
pub metres_stored : (p q : ℕ) (z z' : ℤ) → q ≡ p → SFits w16 z → z ≡ z' → IsMetres p (to_z w16 (of_z w16 z)) → IsMetres q z'
metres_stored p q z z' stored fits same is = rw (stored, sym same, sym (to_z-of_z w16 z fits)) is

-- the converted heights and the zeros behind them
pub front_converted :
    (whole bytes zeros : List ℕ) (n : ℕ)
    → n ≡ length whole / 2 * 4
    → n ≤ length bytes
    → zeros ≡ replicate (length whole % 2) 0
    → ((i : ℕ) → i < length whole / 2 → IsMetres (pattern_at bytes i) (metres_at whole i))
    → Converted whole (take n bytes ++ zeros)
front_converted whole bytes zeros n is within behind each =
    let front = length-take-le n bytes within in
    record {
      long = omega (arith, length-append (take n bytes) zeros, front, ap length behind, length-replicate {A = ℕ} (length whole % 2) 0);
      heights = λ i h. metres_same whole _ bytes n i (λ k under. get_or_append_left (take n bytes) zeros 0 k (omega arith) ∙ get_or-take n bytes k 0 under) (omega arith) (each i h);
      left_over = λ h. get_or-append_right (take n bytes) zeros n _ 0 front (omega arith)
          ∙ ap (λ l. get_or l (length whole / 2 * 4 - n) 0) behind
          ∙ get_or-replicate (length whole % 2) (length whole / 2 * 4 - n) 0 0 (omega arith);
    }

-- the rest of a buffer is as it was where its bytes are
pub rest_same : (n : ℕ) (bytes bytes' : List ℕ) → length bytes ≡ length bytes' → ((k : ℕ) → n ≤ k → get_or bytes k 0 ≡ get_or bytes' k 0) → drop n bytes ≡ drop n bytes'
rest_same n bytes bytes' long same =
    ext_get_or 0 (drop n bytes) (drop n bytes') (omega (arith, length-drop n bytes, length-drop n bytes')) (λ k _. get_or-drop n bytes k 0 ∙ same (n + k) (omega arith) ∙ sym (get_or-drop n bytes' k 0))
