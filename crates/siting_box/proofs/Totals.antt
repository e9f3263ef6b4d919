-- The sum of the counts on record, once all rows are swept.
use Rattle.std.proofs.Common.{◌≡◌, ℕ, ◌+◌, ◌*◌, ◌<◌, ◌≤◌, Bool, true, false, cond, ltb, List, map, length, get_or, take, Some, None, sum, Option, sym, ap, ◌∙◌, arith}
use Rattle.std.specs.Option.{option_map}
use Rattle.std.proofs.lemmas.Nat.{mul-add-lt}
use Rattle.std.proofs.lemmas.List.{get_or-map, get_or-take, length-map, length-take-le}
use Rattle.std.proofs.lemmas.Bool.{eqb-true, eq-eqb, lt-ltb}
use Rattle.heights.specs.Order.{Preorder}
use Rattle.grid.specs.declared.Plan.{Plan}
use Rattle.grid.specs.declared.Place.{Place}
use Rattle.grid.specs.declared.CellRecord.{CellRecord}
use Rattle.grid.specs.Window.{count_at}
use Rattle.pairs.specs.Totals.{cells_and_pairs}
use Rattle.pairs.proofs.Grids.{counts_add_up}
use Rattle.pairs.proofs.Listed.{sum_cells}
use Rattle.siting_box.specs.Contents.{contents, fits_in, well_fitted, plan_terrain, radius_of, all_swept, cells_of, Counted, counts_of}
use Rattle.siting_box.specs.Calls.{TellsTotal}
use Rattle.siting_box.proofs.Plans.{fitting, there, same_some}

-- the count on record of a cell of the plan, in a box whose counts are the defined ones
pub count_recorded : {X : Type 0} (le : X → X → Bool) (p : Plan) (records : List (CellRecord X)) (x y d : ℕ) → fits_in p (length records) ≡ true → x < p.width → y < p.rows → Counted le (contents (Some p) records)
    → get_or (counts_of (Some p) records) (y * p.width + x) d ≡ cond (ltb y p.swept) (count_at le (plan_terrain (Some p) records) p.radius (record { x = x; y = y })) 0
count_recorded {X} le p records x y d fit column row counted =
    let n = p.width * p.rows in
    let i = y * p.width + x in
    let place : Place = record { x = x; y = y } in
    let count : CellRecord X → ℕ = λ c. c.count in
    let room : p.width * p.rows ≤ length records = (fitting p (length records) fit).recorded in
    let lt : y * p.width + x < p.width * p.rows = mul-add-lt y p.width x p.rows row column in
    let found = there records i (omega arith) in
    let long : length (take n records) ≡ n = length-take-le n records room in
    let lt' : i < length (take n records) = omega arith in
    let here : get_or (map count (take n records)) i d ≡ found.0.count = get_or-map count (take n records) i found.0 d lt' ∙ ap count (get_or-take n records i found.0 lt ∙ found.2 found.0) in
    here ∙ same_some _ _ (sym (ap (option_map count) found.1) ∙ counted place (column, row))

-- once all rows of a plan are swept its counts add up to the cells, the pairs in reach and the level pairs in reach
plan_total : {X : Type 0} {le : X → X → Bool} → Preorder le → (p : Plan) (records : List (CellRecord X)) → fits_in p (length records) ≡ true → p.swept ≡ p.rows → Counted le (contents (Some p) records) → sum (counts_of (Some p) records) ≡ cells_and_pairs le (plan_terrain (Some p) records) p.radius
plan_total {X} {le} ordered p records fit swept counted =
    let n = p.width * p.rows in
    let room : p.width * p.rows ≤ length records = (fitting p (length records) fit).recorded in
    let long : length (counts_of (Some p) records) ≡ n = length-map (take n records) (λ (c : CellRecord X). c.count) ∙ length-take-le n records room in
    let whole : length (plan_terrain (Some p) records).heights ≡ n = length-map (take n records) (λ (c : CellRecord X). c.height) ∙ length-take-le n records room in
    sum_cells (count_at le (plan_terrain (Some p) records) p.radius) p.width p.rows (counts_of (Some p) records) long
    (λ x y d column row. count_recorded le p records x y d fit column row counted ∙ ap (λ t. cond t (count_at le (plan_terrain (Some p) records) p.radius (record { x = x; y = y })) 0) (lt-ltb y p.swept (omega arith)))
    ∙ counts_add_up ordered (plan_terrain (Some p) records) p.radius whole

-- the same of a box
pub total_defined : {X : Type 0} {le : X → X → Bool} → Preorder le → (o : Option Plan) (records : List (CellRecord X)) → well_fitted o (length records) ≡ true → all_swept o ≡ true → Counted le (contents o records) → sum (counts_of o records) ≡ cells_and_pairs le (plan_terrain o records) (radius_of o)
total_defined ordered None records fit swept counted = let z : ◌≡◌ {A = Bool} false true = swept in cc
total_defined ordered (Some p) records fit swept counted = plan_total ordered p records fit (eqb-true p.swept p.rows swept) counted

-- the answer of total
pub tells_total : {X : Type 0} {le : X → X → Bool} → Preorder le → (o : Option Plan) (p : Plan) (records : List (CellRecord X)) (total : ℕ) → o ≡ Some p → well_fitted o (length records) ≡ true → p.swept ≡ p.rows
    → total ≡ sum (map (λ c. c.count) (take (cells_of o) records)) → TellsTotal le (contents o records) total
tells_total {X} {le} ordered o p records total e fit swept is =
    let swept_all : all_swept o ≡ true = ap all_swept e ∙ eq-eqb p.swept p.rows swept in
    let on : total ≡ sum (counts_of o records) = is ∙ ap (λ q. sum (map (λ (c : CellRecord X). c.count) (take (cells_of q) records))) e ∙ ap (λ q. sum (counts_of q records)) (sym e) in
    record {
      on_record = on;
      defined = λ counted. on ∙ total_defined ordered o records fit swept_all counted;
    }
