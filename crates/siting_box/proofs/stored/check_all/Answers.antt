use Rattle.std.proofs.Common.{◌≡◌, ◌<◌, true, is_ok, Ok, Err, sym, ap, ◌∙◌, subst, rules}
use Rattle.heights.specs.Meaning.{storage}
use Rattle.siting_box.specs.Stored.{read_first}
use Rattle.siting_box.proofs.Chunks.{turn, all_came}
use Rattle.siting_box.proofs.Readings.{fails, joins}
use Rattle.siting_box.proofs.stored.check_all.Goals as goal

pub loop-index-preserved : goal.loop-index-preserved
loop-index-preserved g c =
    let k = storage g.H.HeightKind.wide g.H.HeightKind.reads in
    let bytes = c.args.bytes.now in
    let inv = c.loop-index.invariant in
    let step = turn g.H.HeightKind.wide bytes c.loop-index.index-iterator c.next.new.self c.in-Some.index c.in-Some.stored inv.at c.in-Some.ensures.steps in
    let before : is_ok (read_first k bytes c.in-Some.index) ≡ true = subst (λ n. is_ok (read_first k bytes n) ≡ true) step.here inv.read in
    let height = c.in_ok-map_err.field-0 in
    let done : c.read_whole.result ≡ Ok height = search rules in
    let read = joins k bytes c.in-Some.index height before (ap k.reads step.chunk_is ∙ sym c.read_whole.ensures ∙ done) in
    record { at = step.left; read = ap (λ n. is_ok (read_first k bytes n)) step.next ∙ read.0 }

pub returns-in_err-map_err : goal.returns-in_err-map_err
returns-in_err-map_err g c = λ count whole.
    let k = storage g.H.HeightKind.wide g.H.HeightKind.reads in
    let bytes = c.args.bytes.now in
    let inv = c.loop-index.invariant in
    let failure = c.in_err-map_err.field-0.0 in
    let step = turn g.H.HeightKind.wide bytes c.loop-index.index-iterator c.next.new.self c.in-Some.index c.in-Some.stored inv.at c.in-Some.ensures.steps in
    let before : is_ok (read_first k bytes c.in-Some.index) ≡ true = subst (λ n. is_ok (read_first k bytes n) ≡ true) step.here inv.read in
    let below : c.in-Some.index < count = step.below count g.met.H.HeightKind.narrow.0 whole in
    let failed : c.read_whole.result ≡ Err failure.cause = search rules in
    let at : c.in-Some.index ≡ failure.index = search rules in
    let told : (failure.index < count) × (read_first k bytes count ≡ Err (failure.index, failure.cause)) =
    subst (λ n. (n < count) × (read_first k bytes count ≡ Err (n, failure.cause))) at
    (below, fails k bytes c.in-Some.index count failure.cause below before (ap k.reads step.chunk_is ∙ sym c.read_whole.ensures ∙ failed))
    in
    search rules

pub returns : goal.returns
returns g c = λ count whole.
    let all = all_came g.H.HeightKind.wide count c.args.bytes.now c.loop-index.index-iterator c.next.new.self c.loop-index.invariant.at c.in-None.ensures.steps whole in
    ap (λ n. is_ok (read_first (storage g.H.HeightKind.wide g.H.HeightKind.reads) c.args.bytes.now n)) (sym all) ∙ c.loop-index.invariant.read
