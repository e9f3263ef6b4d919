-- The walk over cells given as a function of column and row, and the heights that a row's calls put, take and ask.
use Rattle.std.proofs.Common.{◌≡◌, ℕ, zero, suc, ◌+◌, ◌-◌, ◌≤◌, min, List, [], ◌∷◌, ◌++◌, map, sym, refl, ap, ◌∙◌, zero-add, arith}
use Rattle.std.specs.List.{range_with_len, flat_map}
use Rattle.std.proofs.lemmas.List.{append-nil}
use Rattle.counters.specs.Calls.{Call, put, take, ask}
use Rattle.sweep.specs.Walk.{walked_row, taken_before, put_before}
use Rattle.sweep.proofs.Lists.{joined_split, joined_range}
use Rattle.sweep.proofs.Turns.{put_before_later, put_bounds}
use Rattle.ceiling.proofs.Travel.{puts_of, takes_of, asks_of, puts_append, takes_append, asks_append, puts_put, puts_take, takes_put, takes_take, asks_put, asks_take}

-- column x of a band of n rows from row top on, as it is walked
abbrev pub walk : {X : Type 0} → (ℕ → ℕ → X) → (top n x : ℕ) → List X
walk at top n x = map (λ j. at x (walked_row top n x j)) (range_with_len 0 n)

-- the columns from a to just before b
abbrev pub walks : {X : Type 0} → (ℕ → ℕ → X) → (top n a b : ℕ) → List X
walks at top n a b = flat_map (walk at top n) (range_with_len a (b - a))

-- the calls at the turn of x
abbrev pub turn_of : {X : Type 0} → (ℕ → ℕ → X) → (w r top n y x : ℕ) → List (Call X)
turn_of at w r top n y x =
    map take (walks at top n (taken_before r x) (x - r))
    ++ (map put (walks at top n (put_before w r x) (min w (x + r + 1)))
    ++ (ask (at x y) ∷ []))

-- the calls of a row
abbrev pub row_of : {X : Type 0} → (ℕ → ℕ → X) → (w r top n y : ℕ) → List (Call X)
row_of at w r top n y = flat_map (turn_of at w r top n y) (range_with_len 0 w)

-- what is joined over one number more
pub joined_more : {X : Type 0} (f : ℕ → List X) (x : ℕ) → flat_map f (range_with_len 0 (suc x)) ≡ flat_map f (range_with_len 0 x) ++ f x
joined_more f x =
    let one : suc x ≡ x + 1 = omega arith in
    ap (λ k. flat_map f (range_with_len 0 k)) one ∙ (joined_split f 0 x 1 ∙ ap (λ l. flat_map f (range_with_len 0 x) ++ l) (append-nil (f (0 + x)) ∙ ap f (zero-add x)))

module _ {X : Type 0} (at : ℕ → ℕ → X) (w r top n y : ℕ) where
  turn_puts : (x : ℕ) → puts_of (turn_of at w r top n y x) ≡ walks at top n (put_before w r x) (min w (x + r + 1))
  turn_puts x =
      let a = walks at top n (taken_before r x) (x - r) in
      let b = walks at top n (put_before w r x) (min w (x + r + 1)) in
      let e1 = puts_append (map take a) (map put b ++ (ask (at x y) ∷ [])) in
      let e2 = puts_append (map put b) (ask (at x y) ∷ []) in
      e1 ∙ (ap (λ l. l ++ puts_of (map put b ++ (ask (at x y) ∷ []))) (puts_take a) ∙ (e2 ∙ (ap (λ l. l ++ []) (puts_put b) ∙ append-nil b)))

  turn_takes : (x : ℕ) → takes_of (turn_of at w r top n y x) ≡ walks at top n (taken_before r x) (x - r)
  turn_takes x =
      let a = walks at top n (taken_before r x) (x - r) in
      let b = walks at top n (put_before w r x) (min w (x + r + 1)) in
      let e1 = takes_append (map take a) (map put b ++ (ask (at x y) ∷ [])) in
      let e2 = takes_append (map put b) (ask (at x y) ∷ []) in
      e1 ∙ (ap (λ l. takes_of (map take a) ++ l) (e2 ∙ ap (λ l. l ++ []) (takes_put b)) ∙ (append-nil (takes_of (map take a)) ∙ takes_take a))

  turn_asks : (x : ℕ) → asks_of (turn_of at w r top n y x) ≡ at x y ∷ []
  turn_asks x =
      let a = walks at top n (taken_before r x) (x - r) in
      let b = walks at top n (put_before w r x) (min w (x + r + 1)) in
      let e1 = asks_append (map take a) (map put b ++ (ask (at x y) ∷ [])) in
      let e2 = asks_append (map put b) (ask (at x y) ∷ []) in
      e1 ∙ (ap (λ l. l ++ asks_of (map put b ++ (ask (at x y) ∷ []))) (asks_take a) ∙ (e2 ∙ ap (λ l. l ++ (at x y ∷ [])) (asks_put b)))

  -- the heights put by the turns below x: the columns put before the turn of x
  pub row_puts : (x : ℕ) → x ≤ w → puts_of (flat_map (turn_of at w r top n y) (range_with_len 0 x)) ≡ walks at top n 0 (put_before w r x)
  row_puts zero l = refl
  row_puts (suc x) l =
      let k = put_bounds w r x (omega arith) in
      let e1 = ap puts_of (joined_more (turn_of at w r top n y) x) in
      let e2 = puts_append (flat_map (turn_of at w r top n y) (range_with_len 0 x)) (turn_of at w r top n y x) in
      let e3 = row_puts x (omega arith) in
      let e4 = turn_puts x in
      let e5 = joined_range (walk at top n) 0 (put_before w r x) (min w (x + r + 1)) (omega arith) k.1 in
      let e6 : min w (x + r + 1) ≡ put_before w r (suc x) = (let q : x + r + 1 ≡ suc x + r = omega arith in ap (min w) q) ∙ sym (put_before_later w r (suc x) (omega arith)) in
      e1 ∙ (e2 ∙ (ap (λ l. l ++ puts_of (turn_of at w r top n y x)) e3 ∙ (ap (λ l. walks at top n 0 (put_before w r x) ++ l) e4 ∙ (sym e5 ∙ ap (walks at top n 0) e6))))

  -- the heights taken by the turns below x: the columns taken before the turn of x
  pub row_takes : (x : ℕ) → takes_of (flat_map (turn_of at w r top n y) (range_with_len 0 x)) ≡ walks at top n 0 (taken_before r x)
  row_takes zero = let z : 0 - 1 - r ≡ 0 = omega arith in rw z
  row_takes (suc x) =
      let e1 = ap takes_of (joined_more (turn_of at w r top n y) x) in
      let e2 = takes_append (flat_map (turn_of at w r top n y) (range_with_len 0 x)) (turn_of at w r top n y x) in
      let e3 = row_takes x in
      let e4 = turn_takes x in
      let e5 = joined_range (walk at top n) 0 (taken_before r x) (x - r) (omega arith) (omega arith) in
      let e6 : x - r ≡ taken_before r (suc x) = omega arith in
      e1 ∙ (e2 ∙ (ap (λ l. l ++ takes_of (turn_of at w r top n y x)) e3 ∙ (ap (λ l. walks at top n 0 (taken_before r x) ++ l) e4 ∙ (sym e5 ∙ ap (walks at top n 0) e6))))

  -- the heights asked: those of the row
  pub row_asks : (a x : ℕ) → asks_of (flat_map (turn_of at w r top n y) (range_with_len a x)) ≡ map (λ k. at k y) (range_with_len a x)
  row_asks a zero = refl
  row_asks a (suc x) =
      asks_append (turn_of at w r top n y a) (flat_map (turn_of at w r top n y) (range_with_len (a + 1) x))
      ∙ (ap (λ l. l ++ asks_of (flat_map (turn_of at w r top n y) (range_with_len (a + 1) x))) (turn_asks a) ∙ ap (λ l. at a y ∷ l) (row_asks (a + 1) x))
