-- The grids of paired boxes are alike.
use Rattle.std.proofs.Common.{◌≡◌, ℕ, ◌*◌, ◌≤◌, Bool, true, false, cond, ltb, List, length, take, Some, None, Option, refl, ap, ◌∙◌, subst}
use Rattle.std.specs.List.{slice_get}
use Rattle.std.proofs.lemmas.List.{length-map, length-take-le}
use Rattle.grid.specs.declared.Plan.{Plan}
use Rattle.grid.specs.declared.Place.{Place}
use Rattle.grid.specs.declared.CellRecord.{CellRecord}
use Rattle.grid.specs.Terrain.{Terrain, reading_index, height_at}
use Rattle.grid.specs.Alike.{AllHeights, Alike}
use Rattle.siting_box.specs.Contents.{Contents, well_fitted, plan_terrain}
use Rattle.siting_box.proofs.Plans.{fitting}
use Rattle.runs.specs.Pointwise.{Pointwise}
use Rattle.runs.proofs.Couples.{Couple, Compares, both_nth, couples_compare}
use Rattle.runs.proofs.Boxes.{Paired, fits'}

-- the grid of a plan that fits has all its heights
pub all_heights : {X : Type 0} (o : Option Plan) (records : List (CellRecord X)) → well_fitted o (length records) ≡ true → AllHeights (plan_terrain o records)
all_heights None records fit = refl
all_heights {X} (Some p) records fit =
    let room : p.width * p.rows ≤ length records = (fitting p (length records) fit).recorded in
    length-map (take (p.width * p.rows) records) (λ (c : CellRecord X). c.height) ∙ length-take-le (p.width * p.rows) records room

-- equal plans have equal sizes
pub same_columns : {X Y : Type 0} (o : Option Plan) (records : List (CellRecord X)) (records' : List (CellRecord Y)) → (plan_terrain o records).width ≡ (plan_terrain o records').width
same_columns None records records' = refl
same_columns (Some p) records records' = refl

pub same_rows : {X Y : Type 0} (o : Option Plan) (records : List (CellRecord X)) (records' : List (CellRecord Y)) → (plan_terrain o records).rows ≡ (plan_terrain o records').rows
same_rows None records records' = refl
same_rows (Some p) records records' = refl

module _ {X Y : Type 0} (P : X → Y → Type 0) (le : X → X → Bool) (le' : Y → Y → Bool) where
  -- the heights at a place are partners, or there is none in both grids
  couple_at : (width rows : ℕ) (hs : List X) (gs : List Y) (q : Place) → Pointwise P hs gs → Couple P (height_at (record { width = width; rows = rows; heights = hs }) q) (height_at (record { width = width; rows = rows; heights = gs }) q)
  couple_at width rows hs gs q both = by_column (ltb q.x width)
    where
      by_column : (t : Bool) → Couple P (cond t (slice_get hs (reading_index width q)) None) (cond t (slice_get gs (reading_index width q)) None)
      by_column true = both_nth P hs gs (reading_index width q) both
      by_column false = tt

  -- the same of two grids that are equally wide
  grids_compare : (t : Terrain X) (t' : Terrain Y) → t.width ≡ t'.width → Pointwise P t.heights t'.heights → (q : Place) → Couple P (height_at t q) (height_at t' q)
  grids_compare t t' e both q =
      subst (λ w. Couple P (height_at t q) (height_at (record { width = w; rows = t'.rows; heights = t'.heights }) q)) e (couple_at t.width t.rows t.heights t'.heights q both)

  -- the grids of paired boxes are alike
  pub paired_alike : (b : Contents X) (b' : Contents Y) → Compares le le' P → Paired P b b' → Alike le le' (plan_terrain b.plan b.records) (plan_terrain b'.plan b'.records)
  paired_alike b b' iso h =
      let t = plan_terrain b.plan b.records in
      let t' = plan_terrain b'.plan b'.records in
      let columns : t.width ≡ t'.width = same_columns b.plan b.records b'.records ∙ ap (λ o. (plan_terrain o b'.records).width) h.plans in
      let couples = grids_compare t t' columns h.cells in
      record {
        width = columns;
        rows = same_rows b.plan b.records b'.records ∙ ap (λ o. (plan_terrain o b'.records).rows) h.plans;
        all = all_heights b.plan b.records h.fits;
        all' = all_heights b'.plan b'.records (fits' P b b' h);
        compare = λ p q _ _. couples_compare P le le' iso (height_at t p) (height_at t q) (height_at t' p) (height_at t' q) (couples p) (couples q);
      }
