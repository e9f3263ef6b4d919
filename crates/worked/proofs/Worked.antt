-- The worked values, computed.
use Rattle.std.proofs.Common.{◌≡◌, ℕ, zero, suc, ◌<◌, true, false, pos, refl, ◌∙◌, arith, rules}
use Rattle.std.proofs.lemmas.Bool.{false≢true}
use lib.Signed.{le_z}
use Rattle.heights.specs.Order.{Preorder}
use Rattle.grid.specs.declared.Place.{Place}
use Rattle.grid.specs.Terrain.{reading_index, height_at}
use Rattle.grid.specs.Nearest.{squared_distance, is_higher}
use Rattle.counters.specs.Calls.{mileage_after}
use Rattle.sweep.proofs.Defaults.{height_or}
use Rattle.ceiling.specs.Roughness.{FingerSwept}
use Rattle.ceiling.proofs.Ceiling.{row_mileage}
use Rattle.ceiling.proofs.Limit.{row_steps}
use Rattle.worked.specs.Values.{hill, cell, WorkedValues}

-- what holds of each of the six cells holds of every cell inside
each_cell : (P : Place → Type 0) → P (cell 0 0) → P (cell 1 0) → P (cell 2 0) → P (cell 0 1) → P (cell 1 1) → P (cell 2 1) → (x y : ℕ) → x < 3 → y < 2 → P (cell x y)
each_cell P a b c d e f zero zero h k = a
each_cell P a b c d e f (suc zero) zero h k = b
each_cell P a b c d e f (suc (suc zero)) zero h k = c
each_cell P a b c d e f (suc (suc (suc x))) zero h k = absurd (omega arith)
each_cell P a b c d e f zero (suc zero) h k = d
each_cell P a b c d e f (suc zero) (suc zero) h k = e
each_cell P a b c d e f (suc (suc zero)) (suc zero) h k = f
each_cell P a b c d e f (suc (suc (suc x))) (suc zero) h k = absurd (omega arith)
each_cell P a b c d e f x (suc (suc y)) h k = absurd (omega arith)

-- the order of whole metres is lawful
order : Preorder le_z
order = record { total = λ a b. search rules; transitive = λ a b c p q. search rules }

-- a row's steps
steps : (y n : ℕ) → y < 2 → mileage_after 0 (row_steps le_z (height_or (pos 0) hill) 3 2 1 y) ≡ n → (m : ℕ) → FingerSwept le_z hill 1 y m → m ≡ n
steps y n inside is m f = row_mileage order (pos 0) hill refl (omega arith) 1 y m inside f ∙ is

-- of each cell: it is not higher than (2, 1)
none_above : (x y : ℕ) → x < 3 → y < 2 → is_higher le_z (height_at hill (cell x y)) (height_at hill (cell 2 1)) ≡ false
none_above = each_cell (λ q. is_higher le_z (height_at hill q) (height_at hill (cell 2 1)) ≡ false) refl refl refl refl refl refl

-- of each cell: if it is higher than (1, 0), it is (2, 1)
one_above : (x y : ℕ) → x < 3 → y < 2 → is_higher le_z (height_at hill (cell x y)) (height_at hill (cell 1 0)) ≡ true → reading_index 3 (cell x y) ≡ 5
one_above = each_cell (λ q. is_higher le_z (height_at hill q) (height_at hill (cell 1 0)) ≡ true → reading_index 3 q ≡ 5) (λ e. absurd (false≢true e)) (λ e. absurd (false≢true e)) (λ e. absurd (false≢true e)) (λ e. absurd (false≢true e)) (λ e. absurd (false≢true e)) (λ e. refl)

-- so it is at squared distance 2
two_away : (x y : ℕ) → x < 3 → y < 2 → is_higher le_z (height_at hill (cell x y)) (height_at hill (cell 1 0)) ≡ true → squared_distance (cell 1 0) (cell x y) ≡ 2
two_away = each_cell (λ q. is_higher le_z (height_at hill q) (height_at hill (cell 1 0)) ≡ true → squared_distance (cell 1 0) q ≡ 2) (λ e. absurd (false≢true e)) (λ e. absurd (false≢true e)) (λ e. absurd (false≢true e)) (λ e. absurd (false≢true e)) (λ e. absurd (false≢true e)) (λ e. refl)

pub worked_values : WorkedValues
worked_values = record {
  counts = refl;
  first_row = steps 0 4 (omega arith) refl;
  second_row = steps 1 6 (omega arith) refl;
  rough = refl;
  from_side = record {
    inside = (omega arith, omega arith);
    higher = refl;
    distance_is = refl;
    nearest = λ q i up. omega (arith, two_away q.x q.y i.0 i.1 up);
    first = λ q i up e. omega (arith, one_above q.x q.y i.0 i.1 up);
  };
  from_top = λ q i. none_above q.x q.y i.0 i.1;
  pairs = refl;
  pairs_level = refl;
  total = refl;
}
