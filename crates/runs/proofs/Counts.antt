-- The counts on record of paired boxes are equal.
use Rattle.std.proofs.Common.{◌≡◌, ℕ, ◌*◌, ◌<◌, ◌≤◌, Bool, true, cond, ltb, List, length, get_or, take, Some, None, Option, sym, refl, ap, ◌∙◌, subst, mul_comm, arith}
use Rattle.std.proofs.lemmas.Nat.{div_below, mod_below}
use Rattle.std.proofs.lemmas.List.{same_lists, length-map, length-take-le}
use Rattle.grid.specs.declared.Plan.{Plan}
use Rattle.grid.specs.declared.CellRecord.{CellRecord}
use Rattle.grid.specs.Terrain.{Inside}
use Rattle.grid.specs.Window.{count_at}
use Rattle.siting_box.specs.Contents.{Contents, contents, fits_in, well_fitted, plan_terrain, Counted, counts_of, counts_on}
use Rattle.siting_box.specs.Searching.{place_of}
use Rattle.siting_box.proofs.Plans.{fitting}
use Rattle.siting_box.proofs.Totals.{count_recorded}
use Rattle.siting_box.proofs.Searches.{index_of_place}
use Rattle.grid.specs.Alike.{Alike}
use Rattle.agreement.proofs.Ranks.{counts_agree}
use Rattle.runs.proofs.Couples.{Compares}
use Rattle.runs.proofs.Boxes.{Paired}
use Rattle.runs.proofs.Grids.{paired_alike}

-- the place of an index of the plan's cells lies in the grid
place_inside : {X : Type 0} (p : Plan) (records : List (CellRecord X)) (i : ℕ) → 1 ≤ p.width → i < p.width * p.rows → Inside (plan_terrain (Some p) records) (place_of p.width i)
place_inside p records i wide lt =
    let swap : p.width * p.rows ≡ p.rows * p.width = mul_comm p.width p.rows in
    let lt' : i < p.rows * p.width = omega arith in
    (mod_below i p.width wide, div_below i p.width p.rows wide lt')

-- the count on record at an index, in a box whose counts are the defined ones
count_at_index : {X : Type 0} (le : X → X → Bool) (p : Plan) (records : List (CellRecord X)) (i d : ℕ) → fits_in p (length records) ≡ true → i < p.width * p.rows → Counted le (contents (Some p) records)
    → get_or (counts_of (Some p) records) i d ≡ cond (ltb (place_of p.width i).y p.swept) (count_at le (plan_terrain (Some p) records) p.radius (place_of p.width i)) 0
count_at_index le p records i d fit lt counted =
    let wide : 1 ≤ p.width = (fitting p (length records) fit).some_columns in
    let q = place_of p.width i in
    let inside = place_inside p records i wide lt in
    ap (λ j. get_or (counts_of (Some p) records) j d) (sym (index_of_place p.width i wide)) ∙ count_recorded le p records q.x q.y d fit inside.0 inside.1 counted

counts_same : {X Y : Type 0} (le : X → X → Bool) (le' : Y → Y → Bool) (o : Option Plan) (records : List (CellRecord X)) (records' : List (CellRecord Y)) → well_fitted o (length records) ≡ true → well_fitted o (length records') ≡ true → Counted le (contents o records) → Counted le' (contents o records') → Alike le le' (plan_terrain o records) (plan_terrain o records')
    → counts_of o records ≡ counts_of o records'
counts_same le le' None records records' fit fit' counted counted' alike = refl
counts_same {X} {Y} le le' (Some p) records records' fit fit' counted counted' alike =
    let n = p.width * p.rows in
    let facts = fitting p (length records) fit in
    let facts' = fitting p (length records') fit' in
    let wide : 1 ≤ p.width = facts.some_columns in
    let long : length (counts_of (Some p) records) ≡ n = length-map (take n records) (λ (c : CellRecord X). c.count) ∙ length-take-le n records facts.recorded in
    let long' : length (counts_of (Some p) records') ≡ n = length-map (take n records') (λ (c : CellRecord Y). c.count) ∙ length-take-le n records' facts'.recorded in
    same_lists (counts_of (Some p) records) (counts_of (Some p) records') (long ∙ sym long')
    (λ i d h.
    let lt : i < p.width * p.rows = omega arith in
    let q = place_of p.width i in
    let same = (counts_agree le le' (plan_terrain (Some p) records) (plan_terrain (Some p) records') alike p.radius q (place_inside p records i wide lt)).same_count in
    count_at_index le p records i d fit lt counted ∙ ap (λ m. cond (ltb q.y p.swept) m 0) same ∙ sym (count_at_index le' p records' i d fit' lt counted'))

-- paired boxes whose counts are the defined ones have equal counts on record
pub paired_counts : {X Y : Type 0} (P : X → Y → Type 0) (le : X → X → Bool) (le' : Y → Y → Bool) (b : Contents X) (b' : Contents Y) → Compares le le' P → Paired P b b' → Counted le b → Counted le' b' → counts_on b ≡ counts_on b'
paired_counts P le le' b b' iso h counted counted' =
    let same : b' ≡ contents b.plan b'.records = ap (λ o. contents o b'.records) (sym h.plans) in
    let alike = paired_alike P le le' b b' iso h in
    counts_same le le' b.plan b.records b'.records h.fits (ap (well_fitted b.plan) (sym h.fitted) ∙ h.fits) counted (subst (Counted le') same counted')
    (subst (λ o. Alike le le' (plan_terrain b.plan b.records) (plan_terrain o b'.records)) (sym h.plans) alike)
    ∙ ap (λ o. counts_of o b'.records) h.plans
