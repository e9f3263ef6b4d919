-- Counts mended one after another.
use Rattle.std.proofs.Common.{◌≡◌, ℕ, ◌+◌, ◌-◌, ◌*◌, ◌<◌, ◌≤◌, max, Bool, cond, ◌⊎◌, List, [], ◌∷◌, ◌++◌, map, take, drop, length, length-drop, get_or, set, sym, refl, ap, ◌∙◌, subst, inl, inr, ⊎_elim, mul-le-mul_right, add-mul, eq-or-lt_of_le, arith}
use Rattle.std.proofs.lemmas.List.{get_or-set_same, get_or-set_other, get_or_default, get_or_append_left, get_or-append_right, get_or-take, get_or-drop, get_or-map, length-take-le, length-map, take-append-drop, map-append}
use Rattle.std.proofs.lemmas.Bool.{cases_eq, cases_lt}
use borrow.Rule.Slice.PartMut.{put_mid}
use Rattle.grid.specs.declared.CellRecord.{CellRecord}
use Rattle.grid.specs.Terrain.{heights_of}
use Rattle.sweep.proofs.Cells.{count_of}
use Rattle.alteration.specs.declared.part.Part.{Part}
use Rattle.alteration.specs.Parts.{Between, InPart}
use Rattle.alteration.specs.Mending.{mended_count, mended, Mended}

-- a count that its window's change explains is mended to what it has to be
pub mended_right : (counts counted : Bool) (n m : ℕ) → n ≤ 1048576 → m + cond counted 1 0 ≡ n + cond counts 1 0 → mended_count counts counted n ≡ m
mended_right counts counted n m few e = grind arith

module _ {X : Type 0} {le : X → X → Bool} {old new : X} where
  -- nothing is mended
  pub mended_none : (P : ℕ → Type 0) (records : List (CellRecord X)) → ((i : ℕ) → P i → ⊥) → Mended le old new P records records
  mended_none P records none = record { heights = refl; inside = λ i d p. absurd (none i p); others = λ i d out. refl }

  -- some counts are mended after others
  pub mended_then : (P Q R : ℕ → Type 0) {before during later : List (CellRecord X)}
      → ((i : ℕ) → P i → Q i → ⊥) → ((i : ℕ) → P i → R i) → ((i : ℕ) → Q i → R i) → ((i : ℕ) → R i → P i ⊎ Q i)
      → Mended le old new P before during → Mended le old new Q during later → Mended le old new R before later
  mended_then P Q R {before = before} {during = during} {later = later} apart first second either m n = record {
    heights = n.heights ∙ m.heights;
    inside = λ i d r.
        ⊎_elim
        (λ (p : P i). n.others i d (apart i p) ∙ m.inside i d p)
        (λ (q : Q i). n.inside i d q ∙ ap (mended le old new) (m.others i d (λ p. apart i p q)))
        (either i r);
    others = λ i d out. n.others i d (λ q. out (second i q)) ∙ m.others i d (λ p. out (first i p));
  }

  -- the same counts, told otherwise
  pub mended_like : (P Q : ℕ → Type 0) {before later : List (CellRecord X)} → ((i : ℕ) → P i → Q i) → ((i : ℕ) → Q i → P i) → Mended le old new P before later → Mended le old new Q before later
  mended_like P Q on back m = record {
    heights = m.heights;
    inside = λ i d q. m.inside i d (back i q);
    others = λ i d out. m.others i d (λ p. out (on i p));
  }

-- another height keeps every count
pub count_kept : {X : Type 0} (records : List (CellRecord X)) (i : ℕ) (h : X) (d : CellRecord X) → i < length records → (j : ℕ) (e : CellRecord X)
    → (get_or (set records i (record { height = h; count = (get_or records i d).count })) j e).count ≡ (get_or records j e).count
count_kept {X} records i h d lt j e =
    let k : CellRecord X = record { height = h; count = (get_or records i d).count } in
    ⊎_elim
    (λ (q : j ≡ i).
    ap (λ n. (get_or (set records i k) n e).count) q
    ∙ (count_of (get_or-set_same records i k e lt)
    ∙ (count_of (get_or_default records i d e lt) ∙ ap (λ n. (get_or records n e).count) (sym q))))
    (λ (ne : j ≡ i → ⊥). count_of (get_or-set_other records i j k e ne))
    (cases_eq j i)

-- the record at a cell's index is mended by its count
pub mended_is : {X : Type 0} (le : X → X → Bool) (old new : X) (read there : CellRecord X) (n : ℕ) → read ≡ there → n ≡ mended_count (le new there.height) (le old there.height) there.count
    → record { height = there.height; count = n } ≡ mended le old new read
mended_is le old new read there n same is = ap (λ m. record { height = there.height; count = m }) is ∙ sym (ap (mended le old new) same)

-- mended records have the heights that they had
mended_heights : {X : Type 0} (le : X → X → Bool) (old new : X) (cells : List (CellRecord X)) → heights_of (map (mended le old new) cells) ≡ heights_of cells
mended_heights le old new [] = refl
mended_heights le old new (c ∷ cells) = ap (λ hs. c.height ∷ hs) (mended_heights le old new cells)

mended_middle : {X : Type 0} (le : X → X → Bool) (old new : X) (records : List (CellRecord X)) (a n z : ℕ) → z ≡ a + n → z ≤ length records
    → Mended le old new (Between a z) records (take a records ++ (map (mended le old new) (take n (drop a records)) ++ drop n (drop a records)))
mended_middle {X} le old new records a n z end fits =
    let m : CellRecord X → CellRecord X = mended le old new in
    let f : CellRecord X → X = λ c. c.height in
    let front = take a records in
    let part = take n (drop a records) in
    let back = drop n (drop a records) in
    let long : length front ≡ a = length-take-le a records (omega arith) in
    let rest : length (drop a records) ≡ length records - a = length-drop a records in
    let wide : length (map m part) ≡ n = length-map part m ∙ length-take-le n (drop a records) (omega arith) in
    let whole : front ++ (part ++ back) ≡ records = ap (λ l. front ++ l) (take-append-drop n (drop a records)) ∙ take-append-drop a records in
    record {
      heights = map-append f front (map m part ++ back)
          ∙ (ap (λ l. map f front ++ l) (map-append f (map m part) back ∙ (ap (λ l. l ++ map f back) (mended_heights le old new part) ∙ sym (map-append f part back)))
          ∙ (sym (map-append f front (part ++ back)) ∙ ap (map f) whole));
      inside = λ i d p.
          let at : a + (i - a) ≡ i = omega (arith, p.0) in
          get_or-append_right front (map m part ++ back) a i d long p.0
          ∙ (get_or_append_left (map m part) back d (i - a) (omega (arith, p.0, p.1))
          ∙ (get_or-map m part (i - a) d d (omega (arith, p.0, p.1, length-map part m))
          ∙ ap m (get_or-take n (drop a records) (i - a) d (omega (arith, p.0, p.1)) ∙ (get_or-drop a records (i - a) d ∙ ap (λ k. get_or records k d) at))));
      others = λ i d out.
          ⊎_elim
          (λ (low : i < a). get_or_append_left front (map m part ++ back) d i (omega arith) ∙ get_or-take a records i d low)
          (λ (high : a ≤ i).
          let beyond : z ≤ i = ⊎_elim (λ (l : i < z). absurd (out (high, l))) (λ (h : z ≤ i). h) (cases_lt i z) in
          let at : a + (n + (i - a - n)) ≡ i = omega arith in
          get_or-append_right front (map m part ++ back) a i d long high
          ∙ (get_or-append_right (map m part) back n (i - a) d wide (omega arith)
          ∙ (get_or-drop n (drop a records) (i - a - n) d ∙ (get_or-drop a records (n + (i - a - n)) d ∙ ap (λ k. get_or records k d) at))))
          (cases_lt i a);
    }

-- the records from a to just before z are mended
pub mended_part : {X : Type 0} (le : X → X → Bool) (old new : X) (records cells : List (CellRecord X)) (a z : ℕ) → a ≤ z → z ≤ length records → cells ≡ map (mended le old new) (take (z - a) (drop a records))
    → Mended le old new (Between a z) records (put_mid a (z - a) records cells)
mended_part le old new records cells a z low fits e =
    subst (λ ks. Mended le old new (Between a z) records (take a records ++ (ks ++ drop (z - a) (drop a records)))) (sym e) (mended_middle le old new records a (z - a) z (omega arith) fits)

-- an index is that of a cell of a part in a row before another
abbrev pub InRows : Part → ℕ → ℕ → Type 0
InRows p end i = InPart (record { width = p.width; left = p.left; right = p.right; top = p.top; bottom = end }) i

-- a row ends where a later row begins, or before
pub row_below : (y m w : ℕ) → y < m → y * w + w ≤ m * w
row_below y m w lt =
    let up : y + 1 ≤ m = omega arith in
    omega (arith, mul-le-mul_right w up, add-mul y 1 w)

module _ {X : Type 0} {le : X → X → Bool} {old new : X} where
  -- the counts of one row more are mended
  pub row_more : (p : Part) (y : ℕ) {before during later : List (CellRecord X)} → p.right ≤ p.width → p.top ≤ y
      → Mended le old new (InRows p y) before during → Mended le old new (Between (y * p.width + p.left) (y * p.width + p.right)) during later → Mended le old new (InRows p (y + 1)) before later
  row_more p y narrow low m n =
      let w = p.width in
      mended_then (InRows p y) (Between (y * w + p.left) (y * w + p.right)) (InRows p (y + 1))
      (λ i s q. omega (arith, row_below s.row y w s.rows.1, s.columns.1, s.index, q.0, narrow))
      (λ i s. record { column = s.column; row = s.row; columns = s.columns; rows = (s.rows.0, omega (arith, s.rows.1)); index = s.index })
      (λ i q. record { column = i - y * w; row = y; columns = (omega (arith, q.0), omega (arith, q.0, q.1)); rows = (low, omega arith); index = omega (arith, q.0) })
      (λ i s.
      let most : s.row ≤ y = omega (arith, s.rows.1) in
      ⊎_elim
      (λ (e : s.row ≡ y). let f : s.row * w ≡ y * w = ap (λ k. k * w) e in inr (omega (arith, s.index, f, s.columns.0), omega (arith, s.index, f, s.columns.1)))
      (λ (l : s.row < y). inl (record { column = s.column; row = s.row; columns = s.columns; rows = (s.rows.0, l); index = s.index }))
      (eq-or-lt_of_le most))
      m n

  -- after the last row the part is mended
  pub rows_end : (p : Part) (y : ℕ) {before later : List (CellRecord X)} → y ≤ max p.top p.bottom → p.bottom ≤ y → Mended le old new (InRows p y) before later → Mended le old new (InPart p) before later
  rows_end p y most least m =
      mended_like (InRows p y) (InPart p)
      (λ i s. record { column = s.column; row = s.row; columns = s.columns; rows = (s.rows.0, omega (arith, s.rows.0, s.rows.1)); index = s.index })
      (λ i s. record { column = s.column; row = s.row; columns = s.columns; rows = (s.rows.0, omega (arith, s.rows.1)); index = s.index })
      m
