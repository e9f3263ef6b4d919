-- Two boxes whose cells have partnered heights, and what keeps them so.
use Rattle.std.proofs.Common.{◌≡◌, ℕ, ◌+◌, ◌-◌, ◌*◌, ◌<◌, ◌≤◌, Bool, true, leb, List, [], ◌∷◌, ◌++◌, map, length, take, drop, set, Some, Option, sym, refl, ap, ◌∙◌, subst, arith}
use Rattle.std.proofs.lemmas.Option.{same_Some}
use Rattle.std.proofs.lemmas.List.{take_at, length-append, length-drop, length-map, length-take-le}
use Rattle.std.proofs.lemmas.Bool.{le-leb, and_parts, and_from}
use Rattle.heights.specs.Meaning.{Storage}
use Rattle.counters.specs.Calls.{View}
use Rattle.grid.specs.declared.Plan.{Plan}
use Rattle.grid.specs.declared.CellRecord.{CellRecord}
use Rattle.grid.specs.Terrain.{heights_of}
use Rattle.grid.specs.Sizes.{lawful_sizes}
use Rattle.siting_box.specs.Contents.{Contents, contents, fits_in, well_fitted, plan_terrain}
use Rattle.siting_box.specs.Fresh.{fresh}
use Rattle.siting_box.specs.Calls.{Opened, AlteredPlan, SweptPlan, with_row}
use Rattle.siting_box.proofs.Plans.{fitting}
use Rattle.siting_box.proofs.Counting.{length_read}
use Rattle.runs.specs.Running.{new_box}
use Rattle.runs.specs.Pointwise.{Pointwise}
use Rattle.runs.proofs.Couples.{both_set}

-- the plans are equal, there are equally many records, the plan fits, and the heights of each cell of the plan are partners
pub record Paired {X Y : Type 0} (P : X → Y → Type 0) (b : Contents X) (b' : Contents Y) : Type 0 where
  pub plans : b.plan ≡ b'.plan
  pub fitted : length b.records ≡ length b'.records
  pub fits : well_fitted b.plan (length b.records) ≡ true
  pub cells : Pointwise P (plan_terrain b.plan b.records).heights (plan_terrain b'.plan b'.records).heights

pub contents_are : {X : Type 0} (b : Contents X) (o : Option Plan) (records : List (CellRecord X)) → b.plan ≡ o → b.records ≡ records → contents o records ≡ b
contents_are b o records e f = ap (λ q. contents q records) (sym e) ∙ ap (contents b.plan) (sym f)

heights_fresh : {X : Type 0} (hs : List X) → heights_of (map fresh hs) ≡ hs
heights_fresh [] = refl
heights_fresh (h ∷ hs) = ap (λ t. h ∷ t) (heights_fresh hs)

module _ {X Y : Type 0} (P : X → Y → Type 0) where
  -- new boxes over equally many records
  pub new_paired : (records : List (CellRecord X)) (records' : List (CellRecord Y)) → length records ≡ length records' → Paired P (new_box records) (new_box records')
  new_paired records records' e = record { plans = refl; fitted = e; fits = refl; cells = tt }

  -- boxes that are as they were
  pub same_paired : (before after : Contents X) (before' after' : Contents Y) → after ≡ before → after' ≡ before' → Paired P before before' → Paired P after after'
  same_paired before after before' after' e f h = subst (λ t. Paired P t after') (sym e) (subst (λ t. Paired P before t) (sym f) h)

  pub fits' : (b : Contents X) (b' : Contents Y) → Paired P b b' → well_fitted b'.plan (length b'.records) ≡ true
  fits' b b' h = ap (well_fitted b'.plan) (sym h.fitted) ∙ ap (λ o. well_fitted o (length b.records)) (sym h.plans) ∙ h.fits

  pub plan_fits : (b : Contents X) (b' : Contents Y) (p : Plan) → Paired P b b' → b.plan ≡ Some p → fits_in p (length b.records) ≡ true
  plan_fits b b' p h e = subst (λ o. well_fitted o (length b.records) ≡ true) e h.fits

  plan_cells : (b : Contents X) (b' : Contents Y) (p : Plan) → Paired P b b' → b.plan ≡ Some p → Pointwise P (heights_of (take (p.width * p.rows) b.records)) (heights_of (take (p.width * p.rows) b'.records))
  plan_cells b b' p h e =
      let e' : b'.plan ≡ Some p = sym h.plans ∙ e in
      subst (λ o. Pointwise P (heights_of (take (p.width * p.rows) b.records)) (plan_terrain o b'.records).heights) e'
      (subst (λ o. Pointwise P (plan_terrain o b.records).heights (plan_terrain b'.plan b'.records).heights) e h.cells)

  front_length : {Z : Type 0} (n : ℕ) (cells records : List (CellRecord Z)) → n ≤ length records → length cells ≡ n → length (cells ++ drop n records) ≡ length records
  front_length n cells records le long =
      let a : length (cells ++ drop n records) ≡ length cells + length (drop n records) = length-append cells (drop n records) in
      let b : length (drop n records) ≡ length records - n = length-drop n records in
      omega arith

  -- a plan and partnered heights before the records that stay
  front_paired : (p : Plan) (cells records : List (CellRecord X)) (cells' records' : List (CellRecord Y)) → length cells ≡ p.width * p.rows → length cells' ≡ p.width * p.rows → length records ≡ length records' → fits_in p (length records) ≡ true → Pointwise P (heights_of cells) (heights_of cells')
      → Paired P (contents (Some p) (cells ++ drop (p.width * p.rows) records)) (contents (Some p) (cells' ++ drop (p.width * p.rows) records'))
  front_paired p cells records cells' records' long long' same fit both =
      let n = p.width * p.rows in
      let room : p.width * p.rows ≤ length records = (fitting p (length records) fit).recorded in
      let room' : p.width * p.rows ≤ length records' = omega arith in
      let l : length (cells ++ drop n records) ≡ length records = front_length n cells records room long in
      let l' : length (cells' ++ drop n records') ≡ length records' = front_length n cells' records' room' long' in
      let t : take n (cells ++ drop n records) ≡ cells = take_at cells (drop n records) n long in
      let t' : take n (cells' ++ drop n records') ≡ cells' = take_at cells' (drop n records') n long' in
      record {
        plans = refl;
        fitted = l ∙ same ∙ sym l';
        fits = ap (fits_in p) l ∙ fit;
        cells = subst (λ u. Pointwise P (heights_of u) (heights_of (take n (cells' ++ drop n records')))) (sym t) (subst (λ u. Pointwise P (heights_of cells) (heights_of u)) (sym t') both);
      }

  -- accepted opens of partnered heights
  pub opened_paired : {C D : Type 0} (k : Storage X C) (k' : Storage Y D) (width rows radius : ℕ) (bytes bytes' : List ℕ) (before after : Contents X) (before' after' : Contents Y) → length before.records ≡ length before'.records → lawful_sizes width rows radius ≡ true → leb (width * rows) (length before.records) ≡ true
      → (o : Opened k width rows radius bytes before after) (o' : Opened k' width rows radius bytes' before' after') → Pointwise P o.heights o'.heights → Paired P after after'
  opened_paired k k' width rows radius bytes bytes' before after before' after' same lawful room o o' both =
      let p : Plan = record { width = width; rows = rows; radius = radius; swept = 0 } in
      let long = length-map o.heights fresh ∙ length_read k bytes (width * rows) o.heights o.read in
      let long' = length-map o'.heights fresh ∙ length_read k' bytes' (width * rows) o'.heights o'.read in
      let fit : fits_in p (length before.records) ≡ true = and_from _ _ lawful (and_from _ _ (le-leb 0 rows (omega arith)) room) in
      let fresh-both : Pointwise P (heights_of (map fresh o.heights)) (heights_of (map fresh o'.heights)) = subst (λ u. Pointwise P u (heights_of (map fresh o'.heights))) (sym (heights_fresh o.heights)) (subst (λ u. Pointwise P o.heights u) (sym (heights_fresh o'.heights)) both) in
      let there = front_paired p (map fresh o.heights) before.records (map fresh o'.heights) before'.records long long' same fit fresh-both in
      subst (λ u. Paired P u after') (contents_are after (Some p) _ o.plan o.records) (subst (λ u. Paired P (contents (Some p) (map fresh o.heights ++ drop (width * rows) before.records)) u) (contents_are after' (Some p) _ o'.plan o'.records) there)

  cells_length : {Z : Type 0} (p : Plan) (fitted : ℕ) (records cells : List (CellRecord Z)) → fits_in p fitted ≡ true → fitted ≡ length records → length cells ≡ length (take (p.width * p.rows) records) → length cells ≡ p.width * p.rows
  cells_length p fitted records cells fit e long =
      let room : p.width * p.rows ≤ fitted = (fitting p fitted fit).recorded in
      long ∙ length-take-le (p.width * p.rows) records (omega arith)

  -- accepted alters of a cell to partnered heights
  pub altered_paired : {C D : Type 0} (k : Storage X C) (k' : Storage Y D) (le : X → X → Bool) (le' : Y → Y → Bool) (x y : ℕ) (bytes bytes' : List ℕ) (before after : Contents X) (before' after' : Contents Y) → Paired P before before'
      → (a : AlteredPlan k le x y bytes before after) (a' : AlteredPlan k' le' x y bytes' before' after') → P a.height a'.height → Paired P after after'
  altered_paired k k' le le' x y bytes bytes' before after before' after' h a a' pair =
      let p = a.plan in
      let e : a'.plan ≡ a.plan = same_Some a'.plan a.plan (sym a'.plan_is ∙ sym h.plans ∙ a.plan_is) in
      let n = p.width * p.rows in
      let fit : fits_in p (length before.records) ≡ true = plan_fits before before' p h a.plan_is in
      let plan-after' : after'.plan ≡ Some p = a'.plan_after ∙ ap Some e in
      let records-after' : after'.records ≡ a'.cells ++ drop n before'.records = a'.records_after ∙ ap (λ (q : Plan). a'.cells ++ drop (q.width * q.rows) before'.records) e in
      let long = cells_length p (length before.records) before.records a.cells fit refl a.altered.length_is in
      let long' = cells_length p (length before.records) before'.records a'.cells fit h.fitted (a'.altered.length_is ∙ ap (λ (q : Plan). length (take (q.width * q.rows) before'.records)) e) in
      let hs : heights_of a.cells ≡ set (heights_of (take n before.records)) (y * p.width + x) a.height = a.altered.heights in
      let hs' : heights_of a'.cells ≡ set (heights_of (take n before'.records)) (y * p.width + x) a'.height = a'.altered.heights ∙ ap (λ (q : Plan). set (heights_of (take (q.width * q.rows) before'.records)) (y * q.width + x) a'.height) e in
      let both-before = plan_cells before before' p h a.plan_is in
      let both : Pointwise P (heights_of a.cells) (heights_of a'.cells) = subst (λ u. Pointwise P u (heights_of a'.cells)) (sym hs) (subst (λ u. Pointwise P (set (heights_of (take n before.records)) (y * p.width + x) a.height) u) (sym hs') (both_set P (heights_of (take n before.records)) (heights_of (take n before'.records)) (y * p.width + x) a.height a'.height both-before pair)) in
      let there = front_paired p a.cells before.records a'.cells before'.records long long' h.fitted fit both in
      subst (λ u. Paired P u after') (contents_are after (Some p) _ a.plan_after a.records_after) (subst (λ u. Paired P (contents (Some p) (a.cells ++ drop n before.records)) u) (contents_are after' (Some p) _ plan-after' records-after') there)

  -- accepted sweeps
  pub swept_paired : (le : X → X → Bool) (le' : Y → Y → Bool) (before after : Contents X) (before' after' : Contents Y) (old new : View X) (old' new' : View Y) (mileage mileage' : ℕ) → Paired P before before'
      → (s : SweptPlan le before after old new mileage) (s' : SweptPlan le' before' after' old' new' mileage') → s.plan.swept < s.plan.rows → Paired P after after'
  swept_paired le le' before after before' after' old new old' new' mileage mileage' h s s' left =
      let p = s.plan in
      let e : s'.plan ≡ s.plan = same_Some s'.plan s.plan (sym s'.plan_is ∙ sym h.plans ∙ s.plan_is) in
      let n = p.width * p.rows in
      let fit : fits_in p (length before.records) ≡ true = plan_fits before before' p h s.plan_is in
      let parts = and_parts (lawful_sizes p.width p.rows p.radius) _ fit in
      let parts₂ = and_parts (leb p.swept p.rows) _ parts.1 in
      let fit-after : fits_in (with_row p) (length before.records) ≡ true = and_from _ _ parts.0 (and_from _ _ (le-leb (p.swept + 1) p.rows (omega arith)) parts₂.1) in
      let plan-after' : after'.plan ≡ Some (with_row p) = s'.plan_after ∙ ap (λ q. Some (with_row q)) e in
      let records-after' : after'.records ≡ s'.cells ++ drop n before'.records = s'.records_after ∙ ap (λ (q : Plan). s'.cells ++ drop (q.width * q.rows) before'.records) e in
      let long = cells_length p (length before.records) before.records s.cells fit refl s.row.length_is in
      let long' = cells_length p (length before.records) before'.records s'.cells fit h.fitted (s'.row.length_is ∙ ap (λ (q : Plan). length (take (q.width * q.rows) before'.records)) e) in
      let hs : heights_of s.cells ≡ heights_of (take n before.records) = s.row.heights in
      let hs' : heights_of s'.cells ≡ heights_of (take n before'.records) = s'.row.heights ∙ ap (λ (q : Plan). heights_of (take (q.width * q.rows) before'.records)) e in
      let both : Pointwise P (heights_of s.cells) (heights_of s'.cells) = subst (λ u. Pointwise P u (heights_of s'.cells)) (sym hs) (subst (λ u. Pointwise P (heights_of (take n before.records)) u) (sym hs') (plan_cells before before' p h s.plan_is)) in
      let there = front_paired (with_row p) s.cells before.records s'.cells before'.records long long' h.fitted fit-after both in
      subst (λ u. Paired P u after') (contents_are after (Some (with_row p)) _ s.plan_after s.records_after) (subst (λ u. Paired P (contents (Some (with_row p)) (s.cells ++ drop n before.records)) u) (contents_are after' (Some (with_row p)) _ plan-after' records-after') there)
