-- The steps over all rows: each pair of cells that share a side is met by few rows' walks.
use Rattle.std.proofs.Common.{◌≡◌, ℕ, zero, suc, ◌+◌, ◌-◌, ◌*◌, ◌%◌, ◌<◌, ◌≤◌, min, Bool, true, false, cond, ◌&&◌, eqb, leb, List, [], map, sym, refl, ap, ◌∙◌, subst, mul-le-mul_right, mul_assoc, add-mul, mul-add, arith}
use Rattle.std.specs.List.{range_with_len}
use Rattle.std.proofs.lemmas.Bool.{eqb-true, eq-eqb, ne_eqb, le-leb, lt-leb, leb-true, and_parts}
use Rattle.heights.specs.Order.{Preorder}
use Rattle.counters.specs.Held.{has_level}
use Rattle.counters.specs.Calls.{finger_steps}
use Rattle.sweep.specs.Walk.{band_top, band_rows, walked_row, taken_before, put_before}
use Rattle.sweep.proofs.Defaults.{walked_inside}
use Rattle.sweep.proofs.Totals.{total, total_ext, total_part, total_add, total_swap}
use Rattle.sweep.proofs.Turns.{put_before_later}
use Rattle.ceiling.proofs.Steps.{steps_along}
use Rattle.ceiling.proofs.Sums.{total_le, total_times, total_front, few, few_times}
use Rattle.ceiling.proofs.Travel.{puts_of, travel, Among, steps_le_travel, steps_none, nothing_within, all_counting, all_joined}
use Rattle.ceiling.proofs.Walks.{walk, walks, row_of, row_puts, row_takes, row_asks}
use Rattle.ceiling.proofs.Ways.{turn_row, travel_map, walk_travel}

-- ---- a pair of cells one above the other

-- the band of row y has the rows b and b + 1
abbrev spans : (r y b : ℕ) → Bool
spans r y b = leb y (b + r) && leb (b + 1) (y + r)

-- two rows are in at most 2 r bands
bands_few : (h r b : ℕ) → total (λ y. cond (spans r y b) 1 0) 0 h ≤ 2 * r
bands_few h r b =
    few (λ y. spans r y b) (b + 1 - r) (2 * r) h
    (λ y l t. let u = and_parts (leb y (b + r)) (leb (b + 1) (y + r)) t in (omega (arith, leb-true (b + 1) (y + r) u.1), omega (arith, leb-true y (b + r) u.0, leb-true (b + 1) (y + r) u.1)))

band_total : (g : ℕ → ℕ) (h r y : ℕ) → y < h → total g (band_top r y) (band_rows h r y - 1) ≡ total (λ b. cond (spans r y b) (g b) 0) 0 (h - 1)
band_total g h r y l =
    let f : ℕ → ℕ = λ b. cond (spans r y b) (g b) 0 in
    let hi = min h (y + r + 1) - 1 in
    let e : hi - (y - r) ≡ band_rows h r y - 1 = omega arith in
    let part = total_part f (h - 1) (y - r) hi (omega arith) (omega arith)
    (λ i q. let z = lt-leb y (i + r) (omega arith) in let k : f i ≡ 0 = rw z in k)
    (λ i q s. let z1 = le-leb y (i + r) (omega arith) in let z2 = lt-leb (i + 1) (y + r) (omega arith) in let k : f i ≡ 0 = rw (z1, z2) in k) in
    let same = total_ext f g (y - r) (hi - (y - r)) (λ i p q. let z1 = le-leb y (i + r) (omega arith) in let z2 = le-leb (i + 1) (y + r) (omega arith) in let k : f i ≡ g i = rw (z1, z2) in k) in
    sym (part ∙ (same ∙ ap (total g (y - r)) e))

-- the ways along a column, over all rows' bands
vertical : (g : ℕ → ℕ) (h r : ℕ) → total (λ y. total g (band_top r y) (band_rows h r y - 1)) 0 h ≤ 2 * r * total g 0 (h - 1)
vertical g h r =
    omega (
      arith,
      total_ext (λ y. total g (band_top r y) (band_rows h r y - 1)) (λ y. total (λ b. cond (spans r y b) (g b) 0) 0 (h - 1)) 0 h (λ y p q. band_total g h r y (omega arith)),
      few_times (λ y b. spans r y b) g (2 * r) h (h - 1) (bands_few h r),
    )

-- ---- a pair of cells side by side

total_pick : (g : ℕ → ℕ) (k n : ℕ) → k < n → total (λ j. cond (eqb j k) (g j) 0) 0 n ≡ g k
total_pick g k n l =
    let f : ℕ → ℕ = λ j. cond (eqb j k) (g j) 0 in
    let part = total_part f n k (k + 1) (omega arith) (omega arith)
    (λ i q. let z = ne_eqb i k (λ e. omega arith) in let t : f i ≡ 0 = rw z in t)
    (λ i q s. let z = ne_eqb i k (λ e. omega arith) in let t : f i ≡ 0 = rw z in t) in
    let e : k + 1 - k ≡ 1 = omega arith in
    let here : f k ≡ g k = (let z = eq-eqb k k refl in rw z) in
    part ∙ (ap (total f k) e ∙ omega (arith, here))

turn_range : (h r y j : ℕ) (b : Bool) → y < h → j ≡ cond b (band_top r y + (band_rows h r y - 1)) (band_top r y) → (cond b (j - r) j ≤ y) × (y < cond b (j - r) j + (r + 1))
turn_range h r y j true l e = (omega arith, omega arith)
turn_range h r y j false l e = (omega arith, omega arith)

-- a row is where the walk goes on to the next column in at most r + 1 bands
turns_few : (h r x j : ℕ) → total (λ y. cond (eqb j (turn_row (band_top r y) (band_rows h r y) x)) 1 0) 0 h ≤ r + 1
turns_few h r x j =
    few (λ y. eqb j (turn_row (band_top r y) (band_rows h r y) x)) (cond (eqb (x % 2) 0) (j - r) j) (r + 1) h
    (λ y l t. turn_range h r y j (eqb (x % 2) 0) l (eqb-true j (turn_row (band_top r y) (band_rows h r y) x) t))

turn_inside_by : (h r y : ℕ) (b : Bool) → y < h → cond b (band_top r y + (band_rows h r y - 1)) (band_top r y) < h
turn_inside_by h r y true l = omega arith
turn_inside_by h r y false l = omega arith

-- the ways from one column to the next, over all rows' walks
turning : (g : ℕ → ℕ) (h r x : ℕ) → total (λ y. g (turn_row (band_top r y) (band_rows h r y) x)) 0 h ≤ (r + 1) * total g 0 h
turning g h r x =
    omega (
      arith,
      total_ext (λ y. g (turn_row (band_top r y) (band_rows h r y) x)) (λ y. total (λ j. cond (eqb j (turn_row (band_top r y) (band_rows h r y) x)) (g j) 0) 0 h) 0 h
          (λ y p q. sym (total_pick g (turn_row (band_top r y) (band_rows h r y) x) h (turn_inside_by h r y (eqb (x % 2) 0) (omega arith)))),
      few_times (λ y j. eqb j (turn_row (band_top r y) (band_rows h r y) x)) g (r + 1) h h (turns_few h r x),
    )

finish : (all v t a V H r : ℕ) → 1 ≤ r → all ≤ 2 * (v + t) + a → v ≤ 2 * r * V → t ≤ (r + 1) * H → a ≤ H → all ≤ (4 * r + 1) * (V + H)
finish all v t a V H r big e ev et ea =
    let m1 : 2 * r * V ≡ 2 * (r * V) = mul_assoc 2 r V in
    let m2 = add-mul r 1 H in
    let m3 = mul-add (4 * r + 1) V H in
    let m4 = add-mul (4 * r) 1 V in
    let m5 = add-mul (4 * r) 1 H in
    let m6 : 4 * r * V ≡ 4 * (r * V) = mul_assoc 4 r V in
    let m7 : 4 * r * H ≡ 4 * (r * H) = mul_assoc 4 r H in
    let m8 = mul-le-mul_right {m = 1} {n = r} H big in
    omega (arith, m1, m2, m3, m4, m5, m6, m7, m8)

-- the steps of a finger from a cell to the one below it
abbrev pub down : {X : Type 0} → (X → X → Bool) → List X → (ℕ → ℕ → X) → ℕ → ℕ → ℕ
down le all at x y = finger_steps le all (at x y) (at x (y + 1))

-- the steps of a finger from a cell to the one beside it
abbrev pub across : {X : Type 0} → (X → X → Bool) → List X → (ℕ → ℕ → X) → ℕ → ℕ → ℕ
across le all at x y = finger_steps le all (at x y) (at (x + 1) y)

-- the steps of a finger list over row y
abbrev pub row_steps : {X : Type 0} → (X → X → Bool) → (ℕ → ℕ → X) → (w h r y : ℕ) → ℕ
row_steps le at w h r y = steps_along le (at 0 (band_top r y)) (at 0 (band_top r y)) (at 0 y) [] (row_of at w r (band_top r y) (band_rows h r y) y)

module _ {X : Type 0} {le : X → X → Bool} (o : Preorder le) (all : List X) (at : ℕ → ℕ → X) (w h r : ℕ) (wide : 0 < w) (seen : (x y : ℕ) → x < w → y < h → has_level le all (at x y) ≡ true) where
  walks_among : (y : ℕ) → y < h → Among le all (walks at (band_top r y) (band_rows h r y) 0 w)
  walks_among y l =
      let top = band_top r y in
      let n = band_rows h r y in
      all_joined (λ k. has_level le all k ≡ true) (walk at top n) 0 (w - 0)
      (λ x p q. all_counting (λ k. has_level le all k ≡ true) (λ j. at x (walked_row top n x j)) 0 n
      (λ j u v. seen x (walked_row top n x j) (omega arith) (walked_inside h r y x j l (omega arith))))

  walk_at : (top n k : ℕ) → 0 < n → travel le all (at 0 top) (walks at top n 0 k)
      ≡ total (λ x. total (λ b. down le all at x b) top (n - 1)) 0 k + total (λ x. across le all at x (turn_row top n x)) 0 (k - 1)
  walk_at top zero k l = absurd (omega arith)
  walk_at top (suc m) k l =
      let z : suc m - 1 ≡ m = omega arith in
      let s : top + 0 ≡ top = omega arith in
      let e1 = ap (λ b. travel le all (at 0 b) (walks at top (suc m) 0 k)) s in
      let e2 = walk_travel o all at top m k in
      let e3 = ap (λ c. total (λ x. total (λ b. down le all at x b) top c) 0 k) z in
      omega (arith, e1, e2, e3)

  ask_travel : (y : ℕ) → travel le all (at 0 y) (map (λ k. at k y) (range_with_len 0 w)) ≡ total (λ x. across le all at x y) 0 (w - 1)
  ask_travel y =
      let z : w ≡ suc (w - 1) = omega arith in
      let e1 = ap (λ k. travel le all (at 0 y) (map (λ k. at k y) (range_with_len 0 k))) z in
      omega (arith, e1, travel_map le all (at 0 y) (λ k. at k y) 0 (w - 1), steps_none le all (at 0 y))

  -- a row's steps
  row_le : (y : ℕ) → y < h → row_steps le at w h r y
      ≤ 2 * (total (λ x. total (λ b. down le all at x b) (band_top r y) (band_rows h r y - 1)) 0 w + total (λ x. across le all at x (turn_row (band_top r y) (band_rows h r y) x)) 0 (w - 1)) + total (λ x. across le all at x y) 0 (w - 1)
  row_le y l =
      let top = band_top r y in
      let n = band_rows h r y in
      let calls = row_of at w r top n y in
      let d : ℕ → ℕ = λ x. total (λ b. down le all at x b) top (n - 1) in
      let t : ℕ → ℕ = λ x. across le all at x (turn_row top n x) in
      let full : put_before w r w ≡ w = put_before_later w r w wide ∙ (let q : min w (w + r) ≡ w = omega arith in q) in
      let puts : puts_of calls ≡ walks at top n 0 w = row_puts at w r top n y w (omega arith) ∙ ap (walks at top n 0) full in
      let takes = row_takes at w r top n y w in
      let asks = row_asks at w r top n y 0 w in
      let inside : Among le all (puts_of calls) = subst (λ l. Among le all l) (sym puts) (walks_among y l) in
      let s = steps_le_travel o all (at 0 top) (at 0 top) (at 0 y) [] calls (nothing_within le all) inside in
      let p1 = ap (travel le all (at 0 top)) puts in
      let p2 = ap (travel le all (at 0 top)) takes in
      let p3 = ap (travel le all (at 0 y)) asks in
      let w1 = walk_at top n w (omega arith) in
      let w2 = walk_at top n (taken_before r w) (omega arith) in
      let f1 = total_front d (taken_before r w) w (omega arith) in
      let f2 = total_front t (taken_before r w - 1) (w - 1) (omega arith) in
      omega (arith, s, p1, p2, p3, w1, w2, ask_travel y, f1, f2)

  -- all rows' steps
  pub rows_le : 1 ≤ r → total (λ y. row_steps le at w h r y) 0 h
      ≤ (4 * r + 1) * (total (λ x. total (λ y. down le all at x y) 0 (h - 1)) 0 w + total (λ x. total (λ y. across le all at x y) 0 h) 0 (w - 1))
  rows_le big =
      let v : ℕ → ℕ = λ y. total (λ x. total (λ b. down le all at x b) (band_top r y) (band_rows h r y - 1)) 0 w in
      let t : ℕ → ℕ = λ y. total (λ x. across le all at x (turn_row (band_top r y) (band_rows h r y) x)) 0 (w - 1) in
      let a : ℕ → ℕ = λ y. total (λ x. across le all at x y) 0 (w - 1) in
      let V = total (λ x. total (λ b. down le all at x b) 0 (h - 1)) 0 w in
      let H = total (λ x. total (λ b. across le all at x b) 0 h) 0 (w - 1) in
      let s0 = total_le (λ y. row_steps le at w h r y) (λ y. 2 * (v y + t y) + a y) 0 h (λ y p q. row_le y (omega arith)) in
      let s1 = total_add (λ y. 2 * (v y + t y)) a 0 h in
      let s2 = total_times (λ y. v y + t y) 2 0 h in
      let s3 = total_add v t 0 h in
      let v1 = total_swap (λ y x. total (λ b. down le all at x b) (band_top r y) (band_rows h r y - 1)) 0 h 0 w in
      let v2 = total_le (λ x. total (λ y. total (λ b. down le all at x b) (band_top r y) (band_rows h r y - 1)) 0 h) (λ x. 2 * r * total (λ b. down le all at x b) 0 (h - 1)) 0 w (λ x p q. vertical (λ b. down le all at x b) h r) in
      let v3 = total_times (λ x. total (λ b. down le all at x b) 0 (h - 1)) (2 * r) 0 w in
      let t1 = total_swap (λ y x. across le all at x (turn_row (band_top r y) (band_rows h r y) x)) 0 h 0 (w - 1) in
      let t2 = total_le (λ x. total (λ y. across le all at x (turn_row (band_top r y) (band_rows h r y) x)) 0 h) (λ x. (r + 1) * total (λ b. across le all at x b) 0 h) 0 (w - 1) (λ x p q. turning (λ b. across le all at x b) h r x) in
      let t3 = total_times (λ x. total (λ b. across le all at x b) 0 h) (r + 1) 0 (w - 1) in
      let a1 = total_swap (λ y x. across le all at x y) 0 h 0 (w - 1) in
      finish (total (λ y. row_steps le at w h r y) 0 h) (total v 0 h) (total t 0 h) (total a 0 h) V H r big (omega (arith, s0, s1, s2, s3)) (omega (arith, v1, v2, v3)) (omega (arith, t1, t2, t3)) (omega (arith, a1))
