-- The way of a finger along the walk: down or up each column, and across where the walk goes on to the next column.
use Rattle.std.proofs.Common.{◌≡◌, ℕ, zero, suc, ◌+◌, ◌-◌, ◌%◌, Bool, true, false, cond, eqb, List, [], ◌∷◌, ◌++◌, map, sym, refl, ap, ◌∙◌, add-zero, arith}
use Rattle.std.specs.List.{range_with_len}
use Rattle.std.proofs.lemmas.List.{append-nil}
use Rattle.std.proofs.lemmas.Bool.{eqb-true, eqb-false, eq-eqb, ne_eqb, true≢false, false≢true}
use Rattle.heights.specs.Order.{Preorder}
use Rattle.counters.specs.Calls.{finger_steps}
use Rattle.sweep.specs.Walk.{walked_row}
use Rattle.sweep.proofs.Lists.{joined_range}
use Rattle.sweep.proofs.Totals.{total, total_ext, total_shift, total_reverse, total_last}
use Rattle.ceiling.proofs.Travel.{travel, steps_back, steps_none}
use Rattle.ceiling.proofs.Walks.{walk, walks}

-- where a finger stands after a way
abbrev end_of : {X : Type 0} → X → List X → X
end_of p [] = p
end_of p (h ∷ hs) = end_of h hs

travel_append : {X : Type 0} (le : X → X → Bool) (all : List X) (p : X) (us vs : List X) → travel le all p (us ++ vs) ≡ travel le all p us + travel le all (end_of p us) vs
travel_append le all p [] vs = omega arith
travel_append le all p (h ∷ us) vs = omega (arith, travel_append le all h us vs)

end_append : {X : Type 0} (p : X) (us vs : List X) → end_of p (us ++ vs) ≡ end_of (end_of p us) vs
end_append p [] vs = refl
end_append p (h ∷ us) vs = end_append h us vs

-- the way along a range
pub travel_map : {X : Type 0} (le : X → X → Bool) (all : List X) (p : X) (f : ℕ → X) (a n : ℕ)
    → travel le all p (map f (range_with_len a (suc n))) ≡ finger_steps le all p (f a) + total (λ j. finger_steps le all (f j) (f (j + 1))) a n
travel_map le all p f a zero = refl
travel_map le all p f a (suc n) = omega (arith, travel_map le all (f a) f (a + 1) n)

end_map : {X : Type 0} (p : X) (f : ℕ → X) (a n : ℕ) → end_of p (map f (range_with_len a (suc n))) ≡ f (a + n)
end_map p f a zero = let e : a ≡ a + 0 = omega arith in ap f e
end_map p f a (suc n) = let e : a + 1 + n ≡ a + suc n = omega arith in end_map (f a) f (a + 1) n ∙ ap f e

-- the row in which the walk goes on from column x to the next
abbrev pub turn_row : (top n x : ℕ) → ℕ
turn_row top n x = cond (eqb (x % 2) 0) (top + (n - 1)) top

odd : (x k : ℕ) → k ≡ x % 2 → (x % 2 ≡ 0 → ⊥) → (x + 1) % 2 ≡ 0
odd x zero e z = absurd (z (sym e))
odd x (suc k) e z = omega arith

next_odd : (x : ℕ) (b : Bool) → eqb (x % 2) 0 ≡ b → eqb ((x + 1) % 2) 0 ≡ cond b false true
next_odd x true e = let z = eqb-true (x % 2) 0 e in ne_eqb ((x + 1) % 2) 0 (λ q. omega arith)
next_odd x false e = eq-eqb ((x + 1) % 2) 0 (let z : x % 2 ≡ 0 → ⊥ = eqb-false (x % 2) 0 e in odd x (x % 2) refl z)

row_end_by : (top m : ℕ) (b : Bool) → cond b (top + m) (top + (suc m - 1 - m)) ≡ cond b (top + (suc m - 1)) top
row_end_by top m true = omega arith
row_end_by top m false = omega arith

row_end : (top m x : ℕ) → walked_row top (suc m) x m ≡ turn_row top (suc m) x
row_end top m x = row_end_by top m (eqb (x % 2) 0)

row_start_by : (top m : ℕ) (b c : Bool) → c ≡ cond b false true → cond c (top + 0) (top + (suc m - 1 - 0)) ≡ cond b (top + (suc m - 1)) top
row_start_by top m true true e = absurd (true≢false e)
row_start_by top m true false e = omega arith
row_start_by top m false true e = omega arith
row_start_by top m false false e = absurd (false≢true e)

row_start : (top m x : ℕ) → walked_row top (suc m) (x + 1) 0 ≡ turn_row top (suc m) x
row_start top m x = row_start_by top m (eqb (x % 2) 0) (eqb ((x + 1) % 2) 0) (next_odd x (eqb (x % 2) 0) refl)

module _ {X : Type 0} {le : X → X → Bool} (o : Preorder le) (all : List X) (at : ℕ → ℕ → X) (top m : ℕ) where
  walked_by : (x : ℕ) (b : Bool)
      → total (λ j. finger_steps le all (at x (cond b (top + j) (top + (suc m - 1 - j)))) (at x (cond b (top + (j + 1)) (top + (suc m - 1 - (j + 1)))))) 0 m ≡ total (λ k. finger_steps le all (at x k) (at x (k + 1))) top m
  walked_by x true =
      let d : ℕ → ℕ = λ k. finger_steps le all (at x k) (at x (k + 1)) in
      total_ext (λ j. finger_steps le all (at x (top + j)) (at x (top + (j + 1)))) (λ j. d (top + j)) 0 m
      (λ j p q. let e : top + (j + 1) ≡ top + j + 1 = omega arith in ap (λ k. finger_steps le all (at x (top + j)) (at x k)) e)
      ∙ (total_shift d top 0 m ∙ ap (λ k. total d k m) (add-zero top))
  walked_by x false =
      let d : ℕ → ℕ = λ k. finger_steps le all (at x k) (at x (k + 1)) in
      total_ext (λ j. finger_steps le all (at x (top + (suc m - 1 - j))) (at x (top + (suc m - 1 - (j + 1))))) (λ j. d (top + (m - 1 - j))) 0 m
      (λ j p q.
      let e1 : top + (suc m - 1 - j) ≡ top + (m - 1 - j) + 1 = omega arith in
      let e2 : top + (suc m - 1 - (j + 1)) ≡ top + (m - 1 - j) = omega arith in
      ap (λ k. finger_steps le all (at x k) (at x (top + (suc m - 1 - (j + 1))))) e1
      ∙ (ap (λ k. finger_steps le all (at x (top + (m - 1 - j) + 1)) (at x k)) e2 ∙ steps_back o all (at x (top + (m - 1 - j) + 1)) (at x (top + (m - 1 - j)))))
      ∙ total_reverse d top m

  column_travel : (p : X) (x : ℕ) → travel le all p (walk at top (suc m) x) ≡ finger_steps le all p (at x (walked_row top (suc m) x 0)) + total (λ k. finger_steps le all (at x k) (at x (k + 1))) top m
  column_travel p x = omega (arith, travel_map le all p (λ j. at x (walked_row top (suc m) x j)) 0 m, walked_by x (eqb (x % 2) 0))

  column_end : (p : X) (x : ℕ) → end_of p (walk at top (suc m) x) ≡ at x (turn_row top (suc m) x)
  column_end p x =
      let z : 0 + m ≡ m = omega arith in
      end_map p (λ j. at x (walked_row top (suc m) x j)) 0 m ∙ (ap (λ j. at x (walked_row top (suc m) x j)) z ∙ ap (at x) (row_end top m x))

  columns_more : (k : ℕ) → walks at top (suc m) 0 (suc k) ≡ walks at top (suc m) 0 k ++ walk at top (suc m) k
  columns_more k =
      let e : suc k - k ≡ 1 = omega arith in
      let one : walks at top (suc m) k (suc k) ≡ walk at top (suc m) k = rw e (append-nil (walk at top (suc m) k)) in
      joined_range (walk at top (suc m)) 0 k (suc k) (omega arith) (omega arith) ∙ ap (λ l. walks at top (suc m) 0 k ++ l) one

  columns_end : (p : X) (k : ℕ) → end_of p (walks at top (suc m) 0 (suc k)) ≡ at k (turn_row top (suc m) k)
  columns_end p k = ap (end_of p) (columns_more k) ∙ (end_append p (walks at top (suc m) 0 k) (walk at top (suc m) k) ∙ column_end (end_of p (walks at top (suc m) 0 k)) k)

  -- the way of a finger along the walk of the first k columns
  pub walk_travel : (k : ℕ) → travel le all (at 0 (walked_row top (suc m) 0 0)) (walks at top (suc m) 0 k)
      ≡ total (λ x. total (λ b. finger_steps le all (at x b) (at x (b + 1))) top m) 0 k + total (λ x. finger_steps le all (at x (turn_row top (suc m) x)) (at (x + 1) (turn_row top (suc m) x))) 0 (k - 1)
  walk_travel zero = refl
  walk_travel (suc zero) =
      let p = at 0 (walked_row top (suc m) 0 0) in
      ap (travel le all p) (columns_more 0) ∙ omega (arith, column_travel p 0, steps_none le all p)
  walk_travel (suc (suc k)) =
      let p = at 0 (walked_row top (suc m) 0 0) in
      let d : ℕ → ℕ = λ x. total (λ b. finger_steps le all (at x b) (at x (b + 1))) top m in
      let t : ℕ → ℕ = λ x. finger_steps le all (at x (turn_row top (suc m) x)) (at (x + 1) (turn_row top (suc m) x)) in
      let e1 = ap (travel le all p) (columns_more (suc k)) in
      let e2 = travel_append le all p (walks at top (suc m) 0 (suc k)) (walk at top (suc m) (suc k)) in
      let e3 = walk_travel (suc k) in
      let e4 = ap (λ z. travel le all z (walk at top (suc m) (suc k))) (columns_end p k) in
      let e5 = column_travel (at k (turn_row top (suc m) k)) (suc k) in
      let s : suc k ≡ k + 1 = omega arith in
      let e6 : at (suc k) (walked_row top (suc m) (suc k) 0) ≡ at (k + 1) (turn_row top (suc m) k) = ap (λ z. at z (walked_row top (suc m) z 0)) s ∙ ap (at (k + 1)) (row_start top m k) in
      let e7 = ap (λ z. finger_steps le all (at k (turn_row top (suc m) k)) z) e6 in
      let e8 = total_last d 0 (suc k) in
      let z1 : suc (suc k) - 1 ≡ suc k = omega arith in
      let z2 : suc k - 1 ≡ k = omega arith in
      let e9 = total_last t 0 k in
      let e10 = ap (total t 0) z1 in
      let e11 = ap (total t 0) z2 in
      let z3 : 0 + suc k ≡ suc k = omega arith in
      let z4 : 0 + k ≡ k = omega arith in
      let e12 = ap d z3 in
      let e13 = ap t z4 in
      omega (arith, e1, e2, e3, e4, e5, e7, e8, e9, e10, e11, e12, e13)
