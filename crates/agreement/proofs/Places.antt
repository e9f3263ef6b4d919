-- Places of a grid: which are equal, and what height stands at each.
use Rattle.std.proofs.Common.{◌≡◌, ℕ, zero, suc, ◌*◌, ◌/◌, ◌%◌, ◌<◌, ◌⊎◌, List, [], ◌∷◌, length, set, Some, None, sym, refl, ap, ◌∙◌, inl, inr, arith}
use Rattle.std.specs.List.{slice_get}
use Rattle.std.proofs.lemmas.Nat.{mul-add-lt, div-mul-add, mod-mul-add}
use Rattle.std.proofs.lemmas.Bool.{lt-ltb, cases_eq, cond-true}
use Rattle.grid.specs.declared.Place.{Place}
use Rattle.grid.specs.Terrain.{Terrain, Inside, reading_index, height_at}
use Rattle.agreement.specs.Ranking.{altered}

-- places in the same column and the same row are equal
pub place_same : (p q : Place) → p.x ≡ q.x → p.y ≡ q.y → p ≡ q
place_same p q ex ey =
    let column : ℕ → Place = λ n. record { x = n; y = p.y } in
    let row : ℕ → Place = λ n. record { x = q.x; y = n } in
    ap column ex ∙ ap row ey

-- two places are equal or not
pub place_cases : (p q : Place) → (p ≡ q) ⊎ (p ≡ q → ⊥)
place_cases p q = by_parts (cases_eq p.x q.x) (cases_eq p.y q.y)
  where
    by_parts : (p.x ≡ q.x) ⊎ (p.x ≡ q.x → ⊥) → (p.y ≡ q.y) ⊎ (p.y ≡ q.y → ⊥) → (p ≡ q) ⊎ (p ≡ q → ⊥)
    by_parts (inl ex) (inl ey) = inl (place_same p q ex ey)
    by_parts (inl ex) (inr ny) = inr (λ e. ny (ap (λ (s : Place). s.y) e))
    by_parts (inr nx) ey = inr (λ e. nx (ap (λ (s : Place). s.x) e))

-- places of a grid with the same reading index are equal
pub same_index : (width : ℕ) (p q : Place) → p.x < width → q.x < width → reading_index width p ≡ reading_index width q → p ≡ q
same_index width p q inp inq e =
    let column : p.x ≡ q.x = sym (mod-mul-add p.y width p.x inp) ∙ (ap (λ n. n % width) e ∙ mod-mul-add q.y width q.x inq) in
    let row : p.y ≡ q.y = sym (div-mul-add p.y width p.x inp) ∙ (ap (λ n. n / width) e ∙ div-mul-add q.y width q.x inq) in
    place_same p q column row

-- what stands at an index that was set
pub nth_set_here : {X : Type 0} (xs : List X) (i : ℕ) (h : X) → i < length xs → slice_get (set xs i h) i ≡ Some h
nth_set_here [] i h lt = absurd (omega arith)
nth_set_here (x ∷ xs) zero h lt = refl
nth_set_here (x ∷ xs) (suc i) h lt = nth_set_here xs i h (omega arith)

-- what stands at any other index
pub nth_set_other : {X : Type 0} (xs : List X) (i j : ℕ) (h : X) → (j ≡ i → ⊥) → slice_get (set xs i h) j ≡ slice_get xs j
nth_set_other [] i j h ne = refl
nth_set_other (x ∷ xs) zero zero h ne = absurd (ne refl)
nth_set_other (x ∷ xs) zero (suc j) h ne = refl
nth_set_other (x ∷ xs) (suc i) zero h ne = refl
nth_set_other (x ∷ xs) (suc i) (suc j) h ne = nth_set_other xs i j h (λ e. ne (ap suc e))

-- the height in a column of the grid is the one at the reading index
pub height_nth : {X : Type 0} (t : Terrain X) (p : Place) → p.x < t.width → height_at t p ≡ slice_get t.heights (reading_index t.width p)
height_nth t p inx = cond-true _ (slice_get t.heights (reading_index t.width p)) None (lt-ltb p.x t.width inx)

-- a place inside has an index of the heights
pub index_inside : {X : Type 0} (t : Terrain X) → length t.heights ≡ t.width * t.rows → (p : Place) → Inside t p → reading_index t.width p < length t.heights
index_inside t whole p inside = omega (arith, whole, mul-add-lt p.y t.width p.x t.rows inside.1 inside.0)

-- the height at the altered place
pub altered_here : {X : Type 0} (t : Terrain X) → length t.heights ≡ t.width * t.rows → (p : Place) → Inside t p → (h : X) → height_at (altered t p h) p ≡ Some h
altered_here t whole p inside h =
    height_nth (altered t p h) p inside.0 ∙ nth_set_here t.heights (reading_index t.width p) h (index_inside t whole p inside)

-- the height at any other place
pub altered_other : {X : Type 0} (t : Terrain X) (p q : Place) → Inside t p → Inside t q → (q ≡ p → ⊥) → (h : X) → height_at (altered t p h) q ≡ height_at t q
altered_other t p q inp inq ne h =
    height_nth (altered t p h) q inq.0
    ∙ (nth_set_other t.heights (reading_index t.width p) (reading_index t.width q) h (λ e. ne (same_index t.width q p inq.0 inp.0 e))
    ∙ sym (height_nth t q inq.0))
