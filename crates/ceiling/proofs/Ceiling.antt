-- The mileages of a whole sweep with finger lists are at most 4 r + 1 times the roughness.
use Rattle.std.proofs.Common.{◌≡◌, ℕ, zero, suc, ◌+◌, ◌*◌, ◌<◌, ◌≤◌, Bool, [], Some, sum_by, Option, refl, ap, ◌∙◌, arith}
use Rattle.std.specs.List.{range_with_len}
use Rattle.heights.specs.Order.{Preorder}
use Rattle.counters.specs.Calls.{mileage_after}
use Rattle.grid.specs.Terrain.{Terrain, height_at}
use Rattle.sweep.specs.Walk.{band_top, row_calls}
use Rattle.sweep.proofs.Defaults.{height_or, height_is, row_or}
use Rattle.ceiling.specs.Laws.{Ceiling}
use Rattle.grid.specs.Alike.{AllHeights}
use Rattle.ceiling.specs.Roughness.{roughness, FingerSwept, WholeSweep}
use Rattle.ceiling.proofs.Edges.{roughness_is, cell_seen}
use Rattle.ceiling.proofs.Limit.{row_steps, rows_le}
use Rattle.ceiling.proofs.Steps.{steps_along, begun_mileage}
use Rattle.ceiling.proofs.Sums.{total_le, sum_counting}

same_height : {X : Type 0} (o : Option X) (a b : X) → o ≡ Some a → o ≡ Some b → a ≡ b
same_height o a b e f = cc

-- the mileage of a row swept with a finger list
pub row_mileage : {X : Type 0} {le : X → X → Bool} → Preorder le → (d : X) (t : Terrain X) → AllHeights t → 0 < t.width → (r y m : ℕ) → y < t.rows → FingerSwept le t r y m
    → m ≡ mileage_after 0 (row_steps le (height_or d t) t.width t.rows r y)
row_mileage {X} {le = le} o d t all wide r y m iny f =
    let s = f.swept in
    let first : s.first ≡ height_or d t 0 (band_top r y) = same_height (height_at t (record { x = 0; y = band_top r y })) s.first (height_or d t 0 (band_top r y)) s.first_is (height_is d t all 0 (band_top r y) wide (omega arith)) in
    let asked : s.asked ≡ height_or d t 0 y = same_height (height_at t (record { x = 0; y = y })) s.asked (height_or d t 0 y) s.asked_is (height_is d t all 0 y wide iny) in
    let run = begun_mileage o f.old f.new s.first s.asked (row_calls t r y) f.counted s.ran in
    let at = height_or d t in
    s.answer
    ∙ (run
    ∙ (ap (λ p. mileage_after 0 (steps_along le p p s.asked [] (row_calls t r y))) first
    ∙ (ap (λ a. mileage_after 0 (steps_along le (at 0 (band_top r y)) (at 0 (band_top r y)) a [] (row_calls t r y))) asked
    ∙ ap (λ calls. mileage_after 0 (steps_along le (at 0 (band_top r y)) (at 0 (band_top r y)) (at 0 y) [] calls)) (row_or d t all r y iny))))

mileage_le : (m s : ℕ) → m ≡ mileage_after 0 s → m ≤ s
mileage_le m s e = omega arith

-- with a default height
ceiling_or : {X : Type 0} {le : X → X → Bool} → Preorder le → (d : X) (t : Terrain X) (r : ℕ) (mileages : ℕ → ℕ) → AllHeights t → 1 ≤ t.width → 1 ≤ r → WholeSweep le t r mileages
    → sum_by mileages (range_with_len 0 t.rows) ≤ (4 * r + 1) * roughness le t
ceiling_or {le = le} o d t r mileages all wide big whole =
    let at = height_or d t in
    let e1 = sum_counting mileages 0 t.rows in
    let e2 = total_le mileages (λ y. row_steps le at t.width t.rows r y) 0 t.rows
    (λ y p q. let iny : y < t.rows = omega arith in mileage_le (mileages y) (row_steps le at t.width t.rows r y) (row_mileage o d t all (omega arith) r y (mileages y) iny (whole y iny))) in
    let e3 = rows_le o t.heights at t.width t.rows r (omega arith) (cell_seen le d t all o) big in
    let e4 = ap (λ k. (4 * r + 1) * k) (roughness_is le d t all) in
    omega (arith, e1, e2, e3, e4)

by_rows : {X : Type 0} {le : X → X → Bool} → Preorder le → (t : Terrain X) (r : ℕ) (mileages : ℕ → ℕ) → AllHeights t → 1 ≤ t.width → 1 ≤ r → WholeSweep le t r mileages
    → (n : ℕ) → t.rows ≡ n → sum_by mileages (range_with_len 0 t.rows) ≤ (4 * r + 1) * roughness le t
by_rows o t r mileages all wide big whole zero e =
    let none : sum_by mileages (range_with_len 0 t.rows) ≡ 0 = ap (λ k. sum_by mileages (range_with_len 0 k)) e in
    omega (arith, none)
by_rows o t r mileages all wide big whole (suc n) e = ceiling_or o (whole 0 (omega arith)).swept.first t r mileages all wide big whole

-- the law
pub ceiling : {X : Type 0} {le : X → X → Bool} → Preorder le → Ceiling le
ceiling o = λ t r mileages all wide big whole. by_rows o t r mileages all wide big whole t.rows refl
