-- A loop over the rows of a part, cut out of the records as chunks: which rows are left, and what was counted.
use Rattle.std.proofs.Common.{◌≡◌, ℕ, ◌+◌, ◌-◌, ◌*◌, ◌<◌, ◌≤◌, Bool, List, ◌++◌, length, take, drop, sym, ap, ◌∙◌, mul-le-mul_right, add-mul, one-mul, arith, length-append, length-drop}
use Rattle.std.proofs.Math.Nat.{lt_of_mul-lt-mul_right}
use Rattle.std.proofs.Math.Seq.{take-append_seam, drop-append_seam, take-add}
use Rattle.std.proofs.lemmas.List.{drop-drop, drop-take, take-take, length-take-le}
use Rattle.std.specs.List.{range_with_len, flat_map}
use Rattle.std.specs.Slice.Iter.{chunks_exact_rest, chunks_exact_size}
use Rattle.std.specs.declared.slice.ChunksExact.{ChunksExact}
use Rattle.heights.specs.Tally.{tally}
use Rattle.alteration.specs.declared.part.Part.{Part}

-- the rows from the row y of the part on are left
abbrev pub rows_from : {X : Type 0} → Part → List X → ℕ → List X
rows_from p records y = take (p.bottom * p.width - y * p.width) (drop (y * p.width) records)

-- the rows of the part before one were counted, and those from there on are left
pub record Counted {X : Type 0} (test : ℕ → Bool) (p : Part) (records : List X) (left : ChunksExact X) (count : ℕ) : Type 0 where
  pub row : ℕ
  pub low : p.top ≤ row
  pub high : row ≤ p.bottom
  pub size : chunks_exact_size left ≡ p.width
  pub rest : chunks_exact_rest left ≡ rows_from p records row
  pub few : count ≤ (row - p.top) * 1024
  pub exact : count ≡ tally test (flat_map (λ b. range_with_len (b * p.width + p.left) (p.right - p.left)) (range_with_len p.top (row - p.top)))

front : {X : Type 0} (xs ys : List X) (w : ℕ) → length xs ≡ w → take w (xs ++ ys) ≡ xs
front xs ys w h = ap (λ n. take n (xs ++ ys)) (sym h) ∙ take-append_seam xs ys

back : {X : Type 0} (xs ys : List X) (w : ℕ) → length xs ≡ w → drop w (xs ++ ys) ≡ ys
back xs ys w h = ap (λ n. drop n (xs ++ ys)) (sym h) ∙ drop-append_seam xs ys

-- how many records the rows from one on have
length_rows : {X : Type 0} (p : Part) (records : List X) (y : ℕ) → p.bottom * p.width ≤ length records → y ≤ p.bottom → length (rows_from p records y) ≡ p.bottom * p.width - y * p.width
length_rows p records y fits high =
    let before : y * p.width ≤ p.bottom * p.width = mul-le-mul_right p.width high in
    length-take-le (p.bottom * p.width - y * p.width) (drop (y * p.width) records) (omega (arith, length-drop (y * p.width) records))

-- the next chunk is the next row
pub next_row : {X : Type 0} (p : Part) (records : List X) (y : ℕ) (row rest : List X) → p.bottom * p.width ≤ length records → y ≤ p.bottom → 0 < p.width → rows_from p records y ≡ row ++ rest → length row ≡ p.width
    → (y < p.bottom) × (row ≡ take p.width (drop (y * p.width) records)) × (rest ≡ rows_from p records (y + 1))
next_row {X} p records y row rest fits high wide e long =
    let w = p.width in
    let cells : List X = drop (y * w) records in
    let before : y * w ≤ p.bottom * w = mul-le-mul_right w high in
    let more : (y + 1) * w ≡ y * w + w = add-mul y 1 w ∙ ap (λ n. y * w + n) (one-mul w) in
    let all : p.bottom * w - y * w ≡ length row + length rest = sym (length_rows p records y fits high) ∙ ap length e ∙ length-append row rest in
    let m = p.bottom * w - (y + 1) * w in
    let split : p.bottom * w - y * w ≡ w + m = omega (arith, all, long, more, before) in
    let cut : row ++ rest ≡ take w cells ++ take m (drop w cells) = sym e ∙ ap (λ n. take n cells) split ∙ take-add w m cells in
    let one : length (take w cells) ≡ w = length-take-le w cells (omega (arith, length-drop (y * w) records, all, long, fits, before)) in (
      lt_of_mul-lt-mul_right w (omega (arith, all, long, wide, before)),
      sym (front row rest w long) ∙ ap (take w) cut ∙ front (take w cells) (take m (drop w cells)) w one,
      sym (back row rest w long) ∙ ap (drop w) cut ∙ back (take w cells) (take m (drop w cells)) w one ∙ ap (take m) (drop-drop w (y * w) records ∙ ap (λ n. drop n records) (sym more)),
    )

-- the columns of a row
pub columns_of : {X : Type 0} (records : List X) (a w left right : ℕ) → left ≤ right → right ≤ w → take (right - left) (drop left (take w (drop a records))) ≡ take (right - left) (drop (a + left) records)
columns_of {X} records a w left right h k =
    let cells : List X = drop a records in
    let whole : w ≡ left + (w - left) = omega (arith, h, k) in
    ap (λ n. take (right - left) (drop left (take n cells))) whole
    ∙ ap (take (right - left)) (drop-take left (w - left) cells)
    ∙ take-take (right - left) (w - left) (drop left cells) (omega (arith, h, k))
    ∙ ap (take (right - left)) (drop-drop left a records)

-- where no chunk is left, all rows were counted
pub all_rows : {X : Type 0} (p : Part) (records : List X) (y : ℕ) → p.bottom * p.width ≤ length records → y ≤ p.bottom → length (rows_from p records y) < p.width → y ≡ p.bottom
all_rows p records y fits high short =
    let w = p.width in
    let more : (y + 1) * w ≡ y * w + w = add-mul y 1 w ∙ ap (λ n. y * w + n) (one-mul w) in
    let before : y * w ≤ p.bottom * w = mul-le-mul_right w high in
    let last : p.bottom < y + 1 = lt_of_mul-lt-mul_right w (omega (arith, short, length_rows p records y fits high, more, before)) in
    omega (arith, high, last)
