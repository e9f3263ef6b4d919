-- A list with a number for each cell of a grid in reading order.
use Rattle.std.proofs.Common.{◌≡◌, ℕ, zero, suc, ◌+◌, ◌*◌, ◌<◌, ◌≤◌, List, ◌++◌, map, length, get_or, take, drop, sum_by, sum, sym, ap, ◌∙◌, suc-mul, mul_comm, zero-add, zero-mul, arith}
use Rattle.std.specs.List.{range_with_len, flat_map}
use Rattle.std.proofs.lemmas.List.FromFn.{fill_by_all}
use Rattle.std.proofs.lemmas.List.{take-append-drop, length-drop, length-take-le, get_or-take, get_or-drop, map-append, nil_from_length}
use Rattle.std.proofs.lemmas.Simd.{map-map}
use Rattle.std.proofs.lemmas.List.Sums.{sum-map}
use Rattle.grid.specs.declared.Place.{Place}
use Rattle.grid.specs.Terrain.{cells}
use Rattle.pairs.proofs.Grids.{row_cells}

-- a list that has a number for each cell of n rows from row a on
pub rows_are : (f : Place → ℕ) (width a n : ℕ) (counts : List ℕ) → length counts ≡ n * width → ((x y d : ℕ) → x < width → y < n → get_or counts (y * width + x) d ≡ f (record { x = x; y = a + y })) → counts ≡ map f (flat_map (row_cells width) (range_with_len a n))
rows_are f width a zero counts long each = nil_from_length counts (long ∙ zero-mul width)
rows_are f width a (suc n) counts long each =
    let row : ℕ → Place = λ x. record { x = x; y = a } in
    let product : suc n * width ≡ n * width + width = suc-mul n width in
    let room : width ≤ length counts = omega arith in
    let first : take width counts ≡ map (λ x. f (row x)) (range_with_len 0 width) =
    fill_by_all (λ x. f (row x)) (take width counts) width 0 (length-take-le width counts room)
    (λ x lt. get_or-take width counts x 0 lt ∙ ap (λ i. get_or counts i 0) (let none = zero-mul width in omega arith) ∙ each x 0 0 lt (omega arith) ∙ ap (λ y. f (record { x = x; y = y })) (omega arith)) in
    let rest : drop width counts ≡ map f (flat_map (row_cells width) (range_with_len (a + 1) n)) =
    rows_are f width (a + 1) n (drop width counts) (let short = length-drop width counts in omega arith)
    (λ x y d left low. get_or-drop width counts (y * width + x) d ∙ ap (λ i. get_or counts i d) (let more = suc-mul y width in omega arith) ∙ each x (suc y) d left (omega arith) ∙ ap (λ z. f (record { x = x; y = z })) (omega arith)) in
    sym (take-append-drop width counts)
    ∙ ap (λ cs. cs ++ drop width counts) (first ∙ sym (map-map f row (range_with_len 0 width)))
    ∙ ap (λ cs. map f (row_cells width a) ++ cs) rest
    ∙ sym (map-append f (row_cells width a) (flat_map (row_cells width) (range_with_len (a + 1) n)))

-- its sum is the sum over the cells
pub sum_cells : (f : Place → ℕ) (width rows : ℕ) (counts : List ℕ) → length counts ≡ width * rows → ((x y d : ℕ) → x < width → y < rows → get_or counts (y * width + x) d ≡ f (record { x = x; y = y })) → sum counts ≡ sum_by f (cells width rows)
sum_cells f width rows counts long each =
    let listed : counts ≡ map f (cells width rows) = rows_are f width 0 rows counts (long ∙ mul_comm width rows) (λ x y d left low. each x y d left low ∙ ap (λ z. f (record { x = x; y = z })) (sym (zero-add y))) in
    ap sum listed ∙ sum-map f (cells width rows)
