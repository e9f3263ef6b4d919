-- How grids that are alike are made: from lists that compare alike, and by altering one cell in both.
use Rattle.std.proofs.Common.{◌≡◌, Bool, ◌⊎◌, Some, Option, refl, ap, ◌∙◌, inl, inr, length-set}
use Rattle.std.specs.List.{slice_get}
use Rattle.grid.specs.declared.Place.{Place}
use Rattle.grid.specs.Terrain.{Terrain, Inside, reading_index, height_at}
use Rattle.grid.specs.Window.{is_not_higher}
use Rattle.grid.specs.Alike.{Alike}
use Rattle.agreement.specs.Ranking.{altered, FitsAlike, AlikeAltered, AlikeOpened}
use Rattle.agreement.proofs.Places.{place_cases, height_nth, index_inside, altered_here, altered_other}
use Rattle.agreement.proofs.Ranks.{inside_same}

-- comparisons of equal heights
compare_same : {X Y : Type 0} (le : X → X → Bool) (le' : Y → Y → Bool) (a b c d : Option X) (a' b' c' d' : Option Y)
    → a ≡ c → b ≡ d → a' ≡ c' → b' ≡ d' → is_not_higher le c d ≡ is_not_higher le' c' d' → is_not_higher le a b ≡ is_not_higher le' a' b'
compare_same le le' a b c d a' b' c' d' ea eb ea' eb' e = cc

-- the law of opened grids
pub alike_opened : {X Y : Type 0} (le : X → X → Bool) (le' : Y → Y → Bool) → AlikeOpened le le'
alike_opened {X} {Y} le le' width rows xs ys long long' e =
    let t : Terrain X = record { width = width; rows = rows; heights = xs } in
    let t' : Terrain Y = record { width = width; rows = rows; heights = ys } in
    record {
      width = refl;
      rows = refl;
      all = long;
      all' = long';
      compare = λ p q inp inq.
          compare_same le le' (height_at t p) (height_at t q) (slice_get xs (reading_index width p)) (slice_get xs (reading_index width q))
          (height_at t' p) (height_at t' q) (slice_get ys (reading_index width p)) (slice_get ys (reading_index width q))
          (height_nth t p inp.0) (height_nth t q inq.0) (height_nth t' p inp.0) (height_nth t' q inq.0)
          (e (reading_index width p) (reading_index width q) (index_inside t long p inp) (index_inside t long q inq));
    }

-- the altered grids
module _ {X Y : Type 0} (le : X → X → Bool) (le' : Y → Y → Bool) (t : Terrain X) (t' : Terrain Y) (a : Alike le le' t t') (p : Place) (inside : Inside t p) (h : X) (h' : Y) (fits : FitsAlike le le' t t' p h h') where
  -- the heights at the altered place
  here : (q : Place) → q ≡ p → height_at (altered t p h) q ≡ Some h
  here q e = ap (height_at (altered t p h)) e ∙ altered_here t a.all p inside h

  -- the same in the other grid
  here' : (q : Place) → q ≡ p → height_at (altered t' p h') q ≡ Some h'
  here' q e = ap (height_at (altered t' p h')) e ∙ altered_here t' a.all' p (inside_same t t' a p inside) h'

  -- the heights at any other place
  other : (q : Place) → Inside t q → (q ≡ p → ⊥) → height_at (altered t p h) q ≡ height_at t q
  other q inq ne = altered_other t p q inside inq ne h

  -- the same in the other grid
  other' : (q : Place) → Inside t q → (q ≡ p → ⊥) → height_at (altered t' p h') q ≡ height_at t' q
  other' q inq ne = altered_other t' p q (inside_same t t' a p inside) (inside_same t t' a q inq) ne h'

  -- any two cells compare alike, whether one, both or none is the altered one
  by_place : (q s : Place) → Inside t q → Inside t s → (q ≡ p) ⊎ (q ≡ p → ⊥) → (s ≡ p) ⊎ (s ≡ p → ⊥)
      → is_not_higher le (height_at (altered t p h) q) (height_at (altered t p h) s) ≡ is_not_higher le' (height_at (altered t' p h') q) (height_at (altered t' p h') s)
  by_place q s inq ins (inl eq) (inl es) = compare_same le le' _ _ _ _ _ _ _ _ (here q eq) (here s es) (here' q eq) (here' s es) fits.itself
  by_place q s inq ins (inl eq) (inr ns) = compare_same le le' _ _ _ _ _ _ _ _ (here q eq) (other s ins ns) (here' q eq) (other' s ins ns) (fits.below s ins ns)
  by_place q s inq ins (inr nq) (inl es) = compare_same le le' _ _ _ _ _ _ _ _ (other q inq nq) (here s es) (other' q inq nq) (here' s es) (fits.above q inq nq)
  by_place q s inq ins (inr nq) (inr ns) = compare_same le le' _ _ _ _ _ _ _ _ (other q inq nq) (other s ins ns) (other' q inq nq) (other' s ins ns) (a.compare q s inq ins)

-- the law of one altered cell
pub alike_altered : {X Y : Type 0} (le : X → X → Bool) (le' : Y → Y → Bool) → AlikeAltered le le'
alike_altered le le' t t' a p inside h h' fits =
    record {
      width = a.width;
      rows = a.rows;
      all = length-set t.heights (reading_index t.width p) h ∙ a.all;
      all' = length-set t'.heights (reading_index t'.width p) h' ∙ a.all';
      compare = λ q s inq ins. by_place le le' t t' a p inside h h' fits q s inq ins (place_cases q p) (place_cases s p);
    }
