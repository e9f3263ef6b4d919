-- The bytes that pairs of hexadecimal digits write.
use Rattle.std.proofs.Common.{◌≡◌, ℕ, zero, suc, ◌+◌, ◌*◌, ◌/◌, ◌<◌, List, [], ◌∷◌, ◌++◌, length, get_or, take, drop, set, refl, ap, ◌∙◌, zero-add, arith, get_or-drop}
use Rattle.std.specs.Simd.{first_chunks}
use Rattle.std.proofs.lemmas.List.Edits.{paste_more}
use Rattle.console_text.specs.Hexadecimal.{hex_value, bytes_of}

-- half as many bytes as digits
pub length_bytes_of : (ds : List ℕ) → length (bytes_of ds) ≡ length ds / 2
length_bytes_of [] = refl
length_bytes_of (d ∷ []) = refl
length_bytes_of (high ∷ (low ∷ ds)) = let on = length_bytes_of ds in omega arith

-- the byte at k comes from the digits at 2 * k and after it
pub get_or_bytes_of : (ds : List ℕ) (k : ℕ) → k < length ds / 2 → get_or (bytes_of ds) k 0 ≡ 16 * hex_value (get_or ds (2 * k) 0) + hex_value (get_or ds (2 * k + 1) 0)
get_or_bytes_of [] k h = absurd (omega arith)
get_or_bytes_of (d ∷ []) k h = absurd (omega arith)
get_or_bytes_of (high ∷ (low ∷ ds)) zero h = refl
get_or_bytes_of (high ∷ (low ∷ ds)) (suc k) h =
    let on = get_or_bytes_of ds k (omega arith) in
    let even : 2 * suc k ≡ suc (suc (2 * k)) = omega arith in
    let odd : 2 * suc k + 1 ≡ suc (suc (2 * k + 1)) = omega arith in
    rw (odd, even) on

-- the chunk at i of the chunks of two
pub chunk_at : (n i : ℕ) (ds : List ℕ) → i < n → (get_or (get_or (first_chunks 2 n ds) i []) 0 0 ≡ get_or ds (2 * i) 0) × (get_or (get_or (first_chunks 2 n ds) i []) 1 0 ≡ get_or ds (2 * i + 1) 0)
chunk_at zero i ds h = absurd (omega arith)
chunk_at (suc n) zero [] h = (refl, refl)
chunk_at (suc n) zero (a ∷ []) h = (refl, refl)
chunk_at (suc n) zero (a ∷ (b ∷ ds)) h = (refl, refl)
chunk_at (suc n) (suc i) ds h =
    let on = chunk_at n i (drop 2 ds) (omega arith) in (
      on.0 ∙ get_or-drop 2 ds (2 * i) 0 ∙ ap (λ k. get_or ds k 0) (omega arith),
      on.1 ∙ get_or-drop 2 ds (2 * i + 1) 0 ∙ ap (λ k. get_or ds k 0) (omega arith),
    )

-- one byte more of bs over the front of a list
pub front_more : (out bs : List ℕ) (i : ℕ) → i < length out → i < length bs → set (take i bs ++ drop i out) i (get_or bs i 0) ≡ take (i + 1) bs ++ drop (i + 1) out
front_more out bs i h l = simp zero-add at (paste_more out 0 bs i 0 (omega arith) l)
