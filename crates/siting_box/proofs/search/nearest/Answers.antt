use Rattle.std.proofs.Common.{◌≡◌, ◌+◌, ◌*◌, ◌<◌, get_or, slice_index_or, sym, ap, ◌∙◌, subst, arith}
use lib.ListN.{length-map}
use Rattle.std.proofs.lemmas.Nat.{mul-add-lt}
use Rattle.std.proofs.lemmas.List.{get_or-map}
use Rattle.grid.specs.declared.CellRecord.{CellRecord}
use Rattle.grid.specs.Terrain.{heights_of}
use Rattle.siting_box.proofs.Searches.{SoFar, passes, weighed, best_is_nearest}
use Rattle.siting_box.proofs.search.nearest.Goals as goal
use Rattle.siting_box.proofs.search.nearest.Goals.{then-not-is_not_higher, else-not-is_not_higher}

pub loop-index-init : goal.loop-index-init
loop-index-init g c = λ j low. absurd (omega (arith, low))

pub loop-index-preserved : goal.loop-index-preserved
loop-index-preserved g c =
    let le = g.H.Height.not_higher in
    let records = c.args.records.now in
    let hs = heights_of records in
    let height = λ (r : CellRecord g.row.H.Denot). r.height in
    let plan = c.args.plan in
    let from = c.args.from in
    let i = c.loop-index.index in
    let own = height (slice_index_or records (from.y * plan.width + from.x) c.index-records-from.result) in
    let here : get_or hs i own ≡ c.index-records-index.result.height = get_or-map height records i c.index-records-index.result own c.loop-index-test.true ∙ ap height (sym c.index-records-index.is) in
    let test : c.is_not_higher.result ≡ le (get_or hs i own) own = c.is_not_higher.ensures ∙ ap (λ h. le h own) (sym here) in
    let wide : 0 < plan.width = omega (arith, c.requires.inside.0) in
    elim c.if-not-is_not_higher.branch [
      | then-not-is_not_higher w ↦
          subst (SoFar le hs own plan.width from (i + 1)) (sym (w.best-is ∙ w.nearer-best.ensures))
          (weighed le hs own plan.width from i c.loop-index.best w.place_of-place.result w.squared_distance-distance.result wide c.loop-index.invariant (sym test ∙ w.if-not-is_not_higher.true) w.place_of-place.ensures w.squared_distance-distance.ensures)
      | else-not-is_not_higher w ↦ subst (SoFar le hs own plan.width from (i + 1)) (sym w.best-is) (passes le hs own plan.width from i c.loop-index.best c.loop-index.invariant (sym test ∙ w.if-not-is_not_higher.false))
    ]

pub returns : goal.returns
returns g c =
    let le = g.H.Height.not_higher in
    let records = c.args.records.now in
    let hs = heights_of records in
    let height = λ (r : CellRecord g.row.H.Denot). r.height in
    let plan = c.args.plan in
    let from = c.args.from in
    let index = from.y * plan.width + from.x in
    let own = height (slice_index_or records index c.index-records-from.result) in
    let there : get_or hs index own ≡ own = get_or-map height records index c.index-records-from.result own (omega (arith, c.requires.whole, mul-add-lt from.y plan.width from.x plan.rows c.requires.inside.1 c.requires.inside.0)) in
    let all : c.loop-index.index ≡ plan.width * plan.rows = omega (arith, c.requires.whole) in
    best_is_nearest le (record { width = plan.width; rows = plan.rows; heights = hs }) from own (length-map _ _ ∙ c.requires.whole) (omega (arith, c.requires.inside.0)) c.requires.inside (sym there) c.loop-index.best
    (subst (λ n. SoFar le hs own plan.width from n c.loop-index.best) all c.loop-index.invariant)
