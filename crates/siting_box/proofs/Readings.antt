-- Readings of stored heights one after another.
use Rattle.std.proofs.Common.{◌≡◌, ℕ, zero, suc, ◌+◌, ◌-◌, ◌<◌, ◌≤◌, Bool, true, false, List, [], ◌∷◌, ◌++◌, is_ok, Ok, Err, Result, sym, refl, ap, ◌∙◌, add-zero, add-one, arith}
use Rattle.std.proofs.lemmas.Bool.{true≢false}
use Rattle.heights.specs.Meaning.{Storage}
use Rattle.siting_box.specs.Stored.{stored_at, read_more, read_first}
use Rattle.siting_box.specs.Fresh.{ok_heights, heights_read}

module _ {X C : Type 0} (k : Storage X C) (bytes : List ℕ) where
  -- one reading more
  pub one_read_more : (i : ℕ) → read_first k bytes (i + 1) ≡ read_more (read_first k bytes i) i (stored_at k bytes i)
  one_read_more i = rw add-one

  -- once a reading failed, that failure stays
  stays_on : (i d : ℕ) (e : ℕ × C) → read_first k bytes i ≡ Err e → read_first k bytes (i + d) ≡ Err e
  stays_on i zero e h = rw add-zero h
  stays_on i (suc d) e h =
      let step : i + suc d ≡ (i + d) + 1 = omega arith in
      ap (read_first k bytes) step ∙ one_read_more (i + d) ∙ ap (λ r. read_more r (i + d) (stored_at k bytes (i + d))) (stays_on i d e h)

  pub stays : (i n : ℕ) (e : ℕ × C) → i ≤ n → read_first k bytes i ≡ Err e → read_first k bytes n ≡ Err e
  stays i n e le h =
      let sum : n ≡ i + (n - i) = omega arith in
      ap (read_first k bytes) sum ∙ stays_on i (n - i) e h

  failed : (i : ℕ) (c : C) (r : Result (List X) (ℕ × C)) → is_ok r ≡ true → read_more r i (Err c) ≡ Err (i, c)
  failed i c (Ok hs) h = refl
  failed i c (Err e) h = let z : ◌≡◌ {A = Bool} false true = h in cc

  -- the first that fails is told
  pub fails : (i n : ℕ) (c : C) → i < n → is_ok (read_first k bytes i) ≡ true → stored_at k bytes i ≡ Err c → read_first k bytes n ≡ Err (i, c)
  fails i n c lt h e =
      stays (i + 1) n (i, c) (omega arith) (one_read_more i ∙ ap (read_more (read_first k bytes i) i) e ∙ failed i c (read_first k bytes i) h)

  passed : (i : ℕ) (h : X) (r : Result (List X) (ℕ × C)) → is_ok r ≡ true → (is_ok (read_more r i (Ok h)) ≡ true) × (ok_heights (read_more r i (Ok h)) ≡ ok_heights r ++ (h ∷ []))
  passed i h (Ok hs) e = (refl, refl)
  passed i h (Err x) e = let z : ◌≡◌ {A = Bool} false true = e in (cc, cc)

  -- a height that reads joins those before it
  pub joins : (i : ℕ) (h : X) → is_ok (read_first k bytes i) ≡ true → stored_at k bytes i ≡ Ok h → (is_ok (read_first k bytes (i + 1)) ≡ true) × (heights_read k bytes (i + 1) ≡ heights_read k bytes i ++ (h ∷ []))
  joins i h ok e =
      let step = one_read_more i ∙ ap (read_more (read_first k bytes i) i) e in
      let p = passed i h (read_first k bytes i) ok in
      (ap is_ok step ∙ p.0, ap ok_heights step ∙ p.1)

  -- where all read, each does
  pub reads : (i n : ℕ) (r : Result X C) → i < n → is_ok (read_first k bytes n) ≡ true → is_ok (read_first k bytes i) ≡ true → stored_at k bytes i ≡ r → is_ok r ≡ true
  reads i n (Ok h) lt all ok e = refl
  reads i n (Err c) lt all ok e =
      let z : false ≡ true = sym (ap is_ok (fails i n c lt ok e)) ∙ all in
      absurd (true≢false (sym z))
