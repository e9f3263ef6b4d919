-- A loop over stored heights of w bytes: where the chunks of the bytes stand.
use Rattle.std.proofs.Common.{◌≡◌, ℕ, ◌+◌, ◌*◌, ◌<◌, ◌≤◌, Bool, true, false, ltb, List, ◌++◌, length, take, drop, Some, None, sym, refl, ap, ◌∙◌, subst, mul-le-mul_right, add-mul, one-mul, arith, length-append, length-drop}
use Rattle.std.proofs.Math.Seq.{take-append_seam, drop-append_seam}
use Rattle.std.proofs.lemmas.List.{drop-drop}
use Rattle.std.proofs.lemmas.Bool.Decides.{nat_tests}
use Rattle.std.specs.Borrow.{Bor}
use Rattle.std.specs.Slice.Iter.{chunks_exact_rest, chunks_exact_size, chunks_exact_steps}
use Rattle.std.specs.Iterator.Adapters.{enumerate_source, enumerate_count, enumerate_steps}
use Rattle.std.specs.declared.slice.ChunksExact.{ChunksExact}
use Rattle.std.specs.declared.iter.Enumerate.{Enumerate}

-- the chunks from the count on are left
pub record AtChunk (w : ℕ) (bytes : List ℕ) (e : Enumerate (ChunksExact ℕ)) : Type 0 where
  pub size : chunks_exact_size (enumerate_source e) ≡ w
  pub rest : chunks_exact_rest (enumerate_source e) ≡ drop (enumerate_count e * w) bytes
  pub within : enumerate_count e * w ≤ length bytes

factor_below : (i n w : ℕ) → i * w < n * w → i < n
factor_below i n w h = by (ltb i n) refl
  where
    by : (b : Bool) → ltb i n ≡ b → i < n
    by true e = grind (arith, nat_tests)
    by false e =
        let up : n ≤ i = grind (arith, nat_tests) in
        absurd (omega (arith, mul-le-mul_right w up))

-- the next chunk, of w bytes, and the bytes after it
next_chunk : (w i : ℕ) (bytes stored rest : List ℕ) → drop (i * w) bytes ≡ stored ++ rest → length stored ≡ w → i * w ≤ length bytes
    → (take w (drop (i * w) bytes) ≡ stored) × (rest ≡ drop ((i + 1) * w) bytes) × ((i + 1) * w ≤ length bytes)
next_chunk w i bytes stored rest e long within =
    let more : (i + 1) * w ≡ i * w + w = add-mul i 1 w ∙ ap (λ n. i * w + n) (one-mul w) in
    let front : take w (stored ++ rest) ≡ stored = ap (λ n. take n (stored ++ rest)) (sym long) ∙ take-append_seam stored rest in
    let back : drop w (stored ++ rest) ≡ rest = ap (λ n. drop n (stored ++ rest)) (sym long) ∙ drop-append_seam stored rest in (
      ap (take w) e ∙ front,
      sym back ∙ ap (drop w) (sym e) ∙ drop-drop w (i * w) bytes ∙ ap (λ n. drop n bytes) (sym more),
      omega (arith, ap length e, length-append stored rest, length-drop (i * w) bytes),
    )

-- a chunk of which all bytes are there is one of those that the bytes hold
chunk_within : (w i n : ℕ) (bytes : List ℕ) → 1 ≤ w → length bytes ≡ n * w → (i + 1) * w ≤ length bytes → i < n
chunk_within w i n bytes some whole within =
    let more : (i + 1) * w ≡ i * w + w = add-mul i 1 w ∙ ap (λ n. i * w + n) (one-mul w) in
    factor_below i n w (omega arith)

-- where only part of a chunk is left, all of them have come
all_chunks : (w i n : ℕ) (bytes : List ℕ) → length bytes ≡ n * w → i * w ≤ length bytes → length (drop (i * w) bytes) < w → i ≡ n
all_chunks w i n bytes whole within short =
    let more : (i + 1) * w ≡ i * w + w = add-mul i 1 w ∙ ap (λ n. i * w + n) (one-mul w) in
    let again : (n + 1) * w ≡ n * w + w = add-mul n 1 w ∙ ap (λ m. n * w + m) (one-mul w) in
    let left = length-drop (i * w) bytes in
    let up : i < n + 1 = factor_below i (n + 1) w (omega arith) in
    let down : n < i + 1 = factor_below n (i + 1) w (omega arith) in
    omega arith

-- the next turn: its index, its chunk, and what is left after it
pub record Turn (w : ℕ) (bytes : List ℕ) (e after : Enumerate (ChunksExact ℕ)) (index : ℕ) (chunk : List ℕ) : Type 0 where
  pub here : enumerate_count e ≡ index
  pub next : enumerate_count after ≡ index + 1
  pub chunk_is : take w (drop (index * w) bytes) ≡ chunk
  pub below : (n : ℕ) → 1 ≤ w → length bytes ≡ n * w → index < n
  pub left : AtChunk w bytes after

pub turn : (w : ℕ) (bytes : List ℕ) (e after : Enumerate (ChunksExact ℕ)) (index : ℕ) (chunk : Bor (List ℕ)) → AtChunk w bytes e → enumerate_steps (chunks_exact_steps {A = ℕ}) e (Some (index, chunk)) after → Turn w bytes e after index chunk.now
turn w bytes e after index chunk at step =
    let next : enumerate_count after ≡ index + 1 = step.2 ∙ ap (λ n. n + 1) (sym step.1) in
    let parts = next_chunk w index bytes chunk.now (chunks_exact_rest (enumerate_source after)) (ap (λ n. drop (n * w) bytes) step.1 ∙ sym at.rest ∙ step.0.1.0) (step.0.1.1 ∙ at.size) (subst (λ n. n * w ≤ length bytes) (sym step.1) at.within) in
    record {
      here = sym step.1;
      next = next;
      chunk_is = parts.0;
      below = λ n some whole. chunk_within w index n bytes some whole parts.2;
      left = record {
        size = step.0.0 ∙ at.size;
        rest = parts.1 ∙ ap (λ n. drop (n * w) bytes) (sym next);
        within = subst (λ n. n * w ≤ length bytes) (sym next) parts.2;
      };
    }

-- where no chunk is left, the count is how many there are
pub all_came : (w n : ℕ) (bytes : List ℕ) (e after : Enumerate (ChunksExact ℕ)) → AtChunk w bytes e → enumerate_steps (chunks_exact_steps {A = ℕ}) e None after → length bytes ≡ n * w → enumerate_count e ≡ n
all_came w n bytes e after at step whole =
    let short : length (drop (enumerate_count e * w) bytes) < w = omega (arith, step.0.1.0, ap length at.rest, at.size) in
    all_chunks w (enumerate_count e) n bytes whole at.within short
