-- What a plan that fits its records gives: bounds of its sizes, and a record for each cell.
use Rattle.std.proofs.Common.{◌≡◌, ℕ, zero, suc, ◌+◌, ◌-◌, ◌*◌, ◌<◌, ◌≤◌, min, Bool, true, false, cond, ◌&&◌, ltb, List, [], ◌∷◌, length, get_or, Some, None, Ok, Err, Option, Result, sym, refl, ap, ◌∙◌, subst, arith}
use Rattle.std.proofs.lemmas.Nat.{mul-add-lt}
use Rattle.std.proofs.lemmas.Bool.Decides.{nat_tests}
use Rattle.std.specs.Option.{option_map}
use Rattle.std.specs.List.{slice_get}
use Rattle.grid.specs.declared.Plan.{Plan}
use Rattle.grid.specs.declared.Place.{Place}
use Rattle.grid.specs.declared.CellRecord.{CellRecord}
use Rattle.grid.specs.Window.{count_at}
use Rattle.grid.proofs.Sizes.{window_size_is}
use Rattle.siting_box.specs.Contents.{contents, fits_in, well_fitted, plan_terrain, count_on}
use Rattle.siting_box.specs.declared.denial.Denial.{Denial}
use Rattle.siting_box.specs.declared.denial.Denial.TheVariants.{Outside}
use Rattle.siting_box.specs.Calls.{plan_with, TellsCount}

-- the facts of a plan that fits
pub record Fitting (p : Plan) (fitted : ℕ) : Type 0 where
  pub some_columns : 1 ≤ p.width
  pub columns : p.width ≤ 1024
  pub some_rows : 1 ≤ p.rows
  pub rows : p.rows ≤ 1024
  pub some_radius : 1 ≤ p.radius
  pub radius : p.radius ≤ 255
  pub swept : p.swept ≤ p.rows
  pub recorded : p.width * p.rows ≤ fitted

pub fitting : (p : Plan) (fitted : ℕ) → fits_in p fitted ≡ true → Fitting p fitted
fitting p fitted e = record {
  some_columns = grind (arith, nat_tests);
  columns = grind (arith, nat_tests);
  some_rows = grind (arith, nat_tests);
  rows = grind (arith, nat_tests);
  some_radius = grind (arith, nat_tests);
  radius = grind (arith, nat_tests);
  swept = grind (arith, nat_tests);
  recorded = grind (arith, nat_tests);
}

-- a plan that has the place is the box's, and the place's cell has a record
pub record Held (o : Option Plan) (fitted : ℕ) (at : Place) (p : Plan) : Type 0 where
  pub plan_is : o ≡ Some p
  pub fits : fits_in p fitted ≡ true
  pub inside : (at.x < p.width) × (at.y < p.rows)
  pub recorded : at.y * p.width + at.x < fitted

-- a plan that has the place is the one asked for
planned : {C : Type 0} (o : Option Plan) (at : Place) (p : Plan) → ◌≡◌ {A = Result Plan (Denial C)} (Ok p) (plan_with o at) → (o ≡ Some p) × (at.x < p.width) × (at.y < p.rows)
planned None at p e = cc
planned (Some q) at p e = has q at p (ltb at.x q.width) (ltb at.y q.rows) refl refl e
  where
    has : {C : Type 0} (q : Plan) (at : Place) (p : Plan) (column row : Bool) → ltb at.x q.width ≡ column → ltb at.y q.rows ≡ row → ◌≡◌ {A = Result Plan (Denial C)} (Ok p) (cond (column && row) (Ok q) (Err Outside)) → (Some q ≡ Some p) × (at.x < p.width) × (at.y < p.rows)
    has q at p true true f g e =
        let same : p ≡ q = cc in
        let column : at.x < q.width = grind (arith, nat_tests) in
        let row : at.y < q.rows = grind (arith, nat_tests) in
        subst (λ r. (Some q ≡ Some r) × (at.x < r.width) × (at.y < r.rows)) (sym same) (refl, column, row)
    has q at p true false f g e = cc
    has q at p false row f g e = cc

pub held : {C : Type 0} (o : Option Plan) (fitted : ℕ) (at : Place) (p : Plan) → ◌≡◌ {A = Result Plan (Denial C)} (Ok p) (plan_with o at) → well_fitted o fitted ≡ true → Held o fitted at p
held o fitted at p e fit =
    let parts = planned o at p e in
    let fits : fits_in p fitted ≡ true = subst (λ q. well_fitted q fitted ≡ true) parts.0 fit in
    record {
      plan_is = parts.0;
      fits = fits;
      inside = (parts.1, parts.2);
      recorded = omega (arith, (fitting p fitted fits).recorded, mul-add-lt at.y p.width at.x p.rows parts.2 parts.1);
    }

-- what stands at an index of a list
pub there : {X : Type 0} (xs : List X) (i : ℕ) → i < length xs → (x : X) × (slice_get xs i ≡ Some x) × ((d : X) → get_or xs i d ≡ x)
there [] i h = absurd (omega arith)
there (x ∷ xs) zero h = (x, refl, λ d. refl)
there (x ∷ xs) (suc i) h = there xs i (omega arith)

-- a cell of the plan has a record
pub cell_recorded : (p : Plan) (fitted x y : ℕ) → fits_in p fitted ≡ true → x < p.width → y < p.rows → y * p.width + x < fitted
cell_recorded p fitted x y e column row =
    let facts = fitting p fitted e in
    omega (arith, facts.recorded, mul-add-lt y p.width x p.rows row column)

-- two values that are there are equal
pub same_some : (a b : ℕ) → Some a ≡ Some b → a ≡ b
same_some a b e = cc

-- the answer of tell
pub tells_count : {X : Type 0} (le : X → X → Bool) (o : Option Plan) (p : Plan) (records : List (CellRecord X)) (at : Place) (cells : ℕ) (r : CellRecord X)
    → Held o (length records) at p → at.y < p.swept
    → cells ≡ (min p.width (at.x + p.radius + 1) - (at.x - p.radius)) * (min p.rows (at.y + p.radius + 1) - (at.y - p.radius))
    → TellsCount le (contents o records) (record { x = at.x; y = at.y }) (record { count = (get_or records (at.y * p.width + at.x) r).count; cells = cells })
tells_count {X} le o p records at cells r here swept size =
    let place : Place = record { x = at.x; y = at.y } in
    let told = (get_or records (at.y * p.width + at.x) r).count in
    let found = there records (at.y * p.width + at.x) here.recorded in
    let recorded : count_on (contents (Some p) records) place ≡ Some told = ap (option_map (λ (c : CellRecord X). c.count)) (found.1 ∙ ap Some (sym (found.2 r))) in
    let test : ltb at.y p.swept ≡ true = grind (arith, nat_tests) in
    subst (λ q. TellsCount le (contents q records) place (record { count = told; cells = cells })) (sym here.plan_is)
    (record {
      on_record = recorded;
      defined = λ counted. same_some _ _ (sym recorded ∙ counted place here.inside ∙ ap (λ b. Some (cond b (count_at le (plan_terrain (Some p) records) p.radius place) 0)) test);
      cells = size ∙ sym (window_size_is (plan_terrain (Some p) records) p.radius place);
    })
