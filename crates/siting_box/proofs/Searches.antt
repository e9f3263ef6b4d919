-- The best cell of those seen so far, and what it is once all cells of a grid were seen.
use Rattle.std.proofs.Common.{◌≡◌, ℕ, ◌+◌, ◌*◌, ◌/◌, ◌%◌, ◌<◌, ◌≤◌, Bool, true, false, cond, not, ltb, leb, ◌⊎◌, List, length, get_or, Some, None, Option, sym, refl, ap, ◌∙◌, subst, inl, inr, ⊎_elim, mul_comm, eq-or-lt_of_le, arith, below_more}
use Rattle.std.proofs.lemmas.Nat.{mul-add-lt, div-mul-add, mod-mul-add, div-add-mod', div_below, mod_below}
use Rattle.std.proofs.lemmas.Option.{slice_get-get_or}
use Rattle.std.proofs.lemmas.Bool.{both_ways, not-true}
use Rattle.std.proofs.lemmas.Bool.Decides.{nat_tests}
use Rattle.std.specs.List.{slice_get}
use Rattle.grid.specs.declared.Place.{Place}
use Rattle.grid.specs.declared.Higher.{Higher}
use Rattle.grid.specs.Terrain.{Terrain, Inside, reading_index, height_at}
use Rattle.grid.specs.Nearest.{squared_distance, is_higher, Nearest}
use Rattle.siting_box.specs.Searching.{place_of, nearer_of}

-- of the cells before index n, found is the first of the nearest to p that are higher than own
pub record BestOf {X : Type 0} (le : X → X → Bool) (hs : List X) (own : X) (width : ℕ) (p : Place) (n : ℕ) (found : Higher) : Type 0 where
  pub column : found.place.x < width
  pub below : reading_index width found.place < n
  pub higher : le (get_or hs (reading_index width found.place) own) own ≡ false
  pub distance_is : found.distance ≡ squared_distance p found.place
  pub others : (j : ℕ) → j < n → le (get_or hs j own) own ≡ false → (found.distance < squared_distance p (place_of width j)) ⊎ ((found.distance ≡ squared_distance p (place_of width j)) × (reading_index width found.place ≤ j))

-- the best of the cells before index n, or none where none of them is higher than own
abbrev pub SoFar : {X : Type 0} → (X → X → Bool) → List X → X → ℕ → Place → ℕ → Option Higher → Type 0
SoFar le hs own width p n None = (j : ℕ) → j < n → le (get_or hs j own) own ≡ true
SoFar le hs own width p n (Some found) = BestOf le hs own width p n found

-- the index of the place at an index
pub index_of_place : (width j : ℕ) → 0 < width → reading_index width (place_of width j) ≡ j
index_of_place width j h = div-add-mod' j width

-- the place at the index of a place
pub place_of_index : (width : ℕ) (q : Place) → q.x < width → place_of width (reading_index width q) ≡ q
place_of_index width q h =
    let e : (q.y * width + q.x) % width ≡ q.x = mod-mul-add q.y width q.x h in
    let f : (q.y * width + q.x) / width ≡ q.y = div-mul-add q.y width q.x h in
    let step : ℕ → ℕ → Place = λ x y. record { x = x; y = y } in
    ap (λ x. step x ((q.y * width + q.x) / width)) e ∙ ap (λ y. step q.x y) f

module _ {X : Type 0} (le : X → X → Bool) (hs : List X) (own : X) (width : ℕ) (p : Place) where
  -- a cell that is not higher changes nothing
  pub passes : (n : ℕ) (b : Option Higher) → SoFar le hs own width p n b → le (get_or hs n own) own ≡ true → SoFar le hs own width p (n + 1) b
  passes n None h low = below_more (λ j. le (get_or hs j own) own ≡ true) n h low
  passes n (Some f) h low = record {
    column = h.column;
    below = omega (arith, h.below);
    higher = h.higher;
    distance_is = h.distance_is;
    others = below_more (λ j. le (get_or hs j own) own ≡ false → (f.distance < squared_distance p (place_of width j)) ⊎ ((f.distance ≡ squared_distance p (place_of width j)) × (reading_index width f.place ≤ j))) n h.others (λ up. absurd (both_ways _ up low));
  }

  -- the first higher cell
  starts : (n : ℕ) → 0 < width → SoFar le hs own width p n None → le (get_or hs n own) own ≡ false → BestOf le hs own width p (n + 1) (record { place = place_of width n; distance = squared_distance p (place_of width n) })
  starts n w h up =
      let at = index_of_place width n w in
      record {
        column = mod_below n width w;
        below = omega (arith, at);
        higher = subst (λ i. le (get_or hs i own) own ≡ false) (sym at) up;
        distance_is = refl;
        others = below_more (λ j. le (get_or hs j own) own ≡ false → (squared_distance p (place_of width n) < squared_distance p (place_of width j)) ⊎ ((squared_distance p (place_of width n) ≡ squared_distance p (place_of width j)) × (reading_index width (place_of width n) ≤ j))) n
            (λ j l high. absurd (both_ways _ high (h j l)))
            (λ _. inr (refl, omega (arith, at)));
      }

  -- a nearer one takes the place of the best
  replaces : (n : ℕ) (f : Higher) → 0 < width → BestOf le hs own width p n f → squared_distance p (place_of width n) < f.distance → le (get_or hs n own) own ≡ false → BestOf le hs own width p (n + 1) (record { place = place_of width n; distance = squared_distance p (place_of width n) })
  replaces n f w h near up =
      let at = index_of_place width n w in
      record {
        column = mod_below n width w;
        below = omega (arith, at);
        higher = subst (λ i. le (get_or hs i own) own ≡ false) (sym at) up;
        distance_is = refl;
        others = below_more (λ j. le (get_or hs j own) own ≡ false → (squared_distance p (place_of width n) < squared_distance p (place_of width j)) ⊎ ((squared_distance p (place_of width n) ≡ squared_distance p (place_of width j)) × (reading_index width (place_of width n) ≤ j))) n
            (λ j l high. inl (⊎_elim (λ less. omega arith) (λ same. omega (arith, same.0)) (h.others j l high)))
            (λ _. inr (refl, omega (arith, at)));
      }

  -- one that is not nearer does not
  remains : (n : ℕ) (f : Higher) → BestOf le hs own width p n f → f.distance ≤ squared_distance p (place_of width n) → BestOf le hs own width p (n + 1) f
  remains n f h far = record {
    column = h.column;
    below = omega (arith, h.below);
    higher = h.higher;
    distance_is = h.distance_is;
    others = below_more (λ j. le (get_or hs j own) own ≡ false → (f.distance < squared_distance p (place_of width j)) ⊎ ((f.distance ≡ squared_distance p (place_of width j)) × (reading_index width f.place ≤ j))) n h.others
        (λ _. ⊎_elim (λ same. inr (same, omega (arith, h.below))) (λ less. inl less) (eq-or-lt_of_le far));
  }

  decides : (n : ℕ) (f : Higher) (t : Bool) → 0 < width → leb f.distance (squared_distance p (place_of width n)) ≡ t → BestOf le hs own width p n f → le (get_or hs n own) own ≡ false → SoFar le hs own width p (n + 1) (cond t (Some f) (Some (record { place = place_of width n; distance = squared_distance p (place_of width n) })))
  decides n f true w e h up = remains n f h (grind (arith, nat_tests))
  decides n f false w e h up = replaces n f w h (grind (arith, nat_tests)) up

  -- a higher cell is weighed against the best
  pub weighs : (n : ℕ) (b : Option Higher) → 0 < width → SoFar le hs own width p n b → le (get_or hs n own) own ≡ false → SoFar le hs own width p (n + 1) (nearer_of b (record { place = place_of width n; distance = squared_distance p (place_of width n) }))
  weighs n None w h up = starts n w h up
  weighs n (Some f) w h up = decides n f (leb f.distance (squared_distance p (place_of width n))) w refl h up

  -- the same, of a cell whose place and distance were computed
  pub weighed : (n : ℕ) (b : Option Higher) (place : Place) (d : ℕ) → 0 < width → SoFar le hs own width p n b → le (get_or hs n own) own ≡ false → place ≡ place_of width n → d ≡ squared_distance p place → SoFar le hs own width p (n + 1) (nearer_of b (record { place = place; distance = d }))
  weighed n b place d w h up e f =
      let step : Place → ℕ → Higher = λ q m. record { place = q; distance = m } in
      let same : step place d ≡ step (place_of width n) (squared_distance p (place_of width n)) = ap (λ q. step q d) e ∙ ap (step (place_of width n)) (f ∙ ap (squared_distance p) e) in
      subst (λ o. SoFar le hs own width p (n + 1) (nearer_of b o)) (sym same) (weighs n b w h up)

-- the height at a cell of a grid whose heights are all there
pub height_inside : {X : Type 0} (t : Terrain X) (q : Place) (d : X) → length t.heights ≡ t.width * t.rows → Inside t q → height_at t q ≡ Some (get_or t.heights (reading_index t.width q) d)
height_inside t q d long in-grid =
    let at : reading_index t.width q < length t.heights = omega (arith, mul-add-lt q.y t.width q.x t.rows in-grid.1 in-grid.0) in
    let column : ltb q.x t.width ≡ true = grind (arith, nat_tests) in
    ap (λ b. cond b (slice_get t.heights (reading_index t.width q)) None) column ∙ slice_get-get_or t.heights (reading_index t.width q) d at

-- the best of all cells is the nearest higher one
module _ {X : Type 0} (le : X → X → Bool) (t : Terrain X) (p : Place) (own : X) (long : length t.heights ≡ t.width * t.rows) (wide : 0 < t.width) (from : Inside t p) (own_is : own ≡ get_or t.heights (reading_index t.width p) own) where
  at_p : height_at t p ≡ Some own
  at_p = height_inside t p own long from ∙ ap Some (sym own_is)

  higher_is : (q : Place) → Inside t q → is_higher le (height_at t q) (height_at t p) ≡ not (le (get_or t.heights (reading_index t.width q) own) own)
  higher_is q i = ap (λ a. is_higher le a (height_at t p)) (height_inside t q own long i) ∙ ap (λ b. is_higher le (Some (get_or t.heights (reading_index t.width q) own)) b) at_p

  index_below : (q : Place) → Inside t q → reading_index t.width q < t.width * t.rows
  index_below q i = mul-add-lt q.y t.width q.x t.rows i.1 i.0

  none_higher : SoFar le t.heights own t.width p (t.width * t.rows) None → Nearest le t p None
  none_higher h q i = higher_is q i ∙ ap not (h (reading_index t.width q) (index_below q i))

  against : (f : Higher) → BestOf le t.heights own t.width p (t.width * t.rows) f → (q : Place) → Inside t q → is_higher le (height_at t q) (height_at t p) ≡ true → (f.distance < squared_distance p q) ⊎ ((f.distance ≡ squared_distance p q) × (reading_index t.width f.place ≤ reading_index t.width q))
  against f h q i up =
      let low = not-true _ (sym (higher_is q i) ∙ up) in
      subst (λ r. (f.distance < squared_distance p r) ⊎ ((f.distance ≡ squared_distance p r) × (reading_index t.width f.place ≤ reading_index t.width q))) (place_of_index t.width q i.0) (h.others (reading_index t.width q) (index_below q i) low)

  pub best_is_nearest : (b : Option Higher) → SoFar le t.heights own t.width p (t.width * t.rows) b → Nearest le t p b
  best_is_nearest None h = none_higher h
  best_is_nearest (Some f) h =
      let below : reading_index t.width f.place < t.rows * t.width = omega (arith, h.below, mul_comm t.width t.rows) in
      let row : f.place.y < t.rows = subst (λ y. y < t.rows) (div-mul-add f.place.y t.width f.place.x h.column) (div_below (reading_index t.width f.place) t.width t.rows wide below) in
      let i : Inside t f.place = (h.column, row) in
      record {
        inside = i;
        higher = higher_is f.place i ∙ ap not h.higher;
        distance_is = h.distance_is;
        nearest = λ q j up. ⊎_elim (λ less. omega arith) (λ same. omega (arith, same.0)) (against f h q j up);
        first = λ q j up e. ⊎_elim (λ less. absurd (omega arith)) (λ same. same.1) (against f h q j up);
      }
