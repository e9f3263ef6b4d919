use Rattle.std.proofs.Common.{◌≡◌, ◌<◌, true, [], ◌∷◌, ◌++◌, map, length, take, set, is_ok, sym, ap, ◌∙◌, subst, arith, rules}
use Rattle.std.proofs.lemmas.List.{length-set, take_more_set, map_push, take_all}
use Rattle.heights.specs.Meaning.{storage}
use Rattle.siting_box.specs.Stored.{read_first}
use Rattle.siting_box.specs.Fresh.{fresh, heights_read}
use Rattle.siting_box.proofs.Chunks.{turn, all_came}
use Rattle.siting_box.proofs.Readings.{reads, joins}
use Rattle.siting_box.proofs.stored.fill.Goals as goal

pub unwrap-height-requires : goal.unwrap-height-requires
unwrap-height-requires g c =
    let k = storage g.H.HeightKind.wide g.H.HeightKind.reads in
    let bytes = c.args.bytes.now in
    let inv = c.loop-index.invariant in
    let step = turn g.H.HeightKind.wide bytes c.loop-index.index-iterator c.next.new.self c.in-Some.index c.in-Some.stored inv.at c.in-Some.ensures.steps in
    let before : is_ok (read_first k bytes c.in-Some.index) ≡ true = subst (λ n. is_ok (read_first k bytes n) ≡ true) step.here inv.read in
    reads k bytes c.in-Some.index (length c.args.records.now) c.read_whole.result (step.below (length c.args.records.now) g.met.H.HeightKind.narrow.0 c.requires.enough) c.requires.all_read before (ap k.reads step.chunk_is ∙ sym c.read_whole.ensures)

pub bounds-records-index : goal.bounds-records-index
bounds-records-index g c =
    let step = turn g.H.HeightKind.wide c.args.bytes.now c.loop-index.index-iterator c.next.new.self c.in-Some.index c.in-Some.stored c.loop-index.invariant.at c.in-Some.ensures.steps in
    omega (arith, step.below (length c.args.records.now) g.met.H.HeightKind.narrow.0 c.requires.enough, c.loop-index.invariant.long)

pub offset_bounds-records-index : goal.offset_bounds-records-index
offset_bounds-records-index g c =
    let step = turn g.H.HeightKind.wide c.args.bytes.now c.loop-index.index-iterator c.next.new.self c.in-Some.index c.in-Some.stored c.loop-index.invariant.at c.in-Some.ensures.steps in
    let below : c.in-Some.index < length c.args.records.now = step.below (length c.args.records.now) g.met.H.HeightKind.narrow.0 c.requires.enough in
    search rules

pub loop-index-preserved : goal.loop-index-preserved
loop-index-preserved g c =
    let k = storage g.H.HeightKind.wide g.H.HeightKind.reads in
    let bytes = c.args.bytes.now in
    let inv = c.loop-index.invariant in
    let i = c.in-Some.index in
    let height = c.unwrap-height.result in
    let step = turn g.H.HeightKind.wide bytes c.loop-index.index-iterator c.next.new.self i c.in-Some.stored inv.at c.in-Some.ensures.steps in
    let below : i < length c.loop-index.records = omega (arith, step.below (length c.args.records.now) g.met.H.HeightKind.narrow.0 c.requires.enough, inv.long) in
    let before : is_ok (read_first k bytes i) ≡ true = subst (λ n. is_ok (read_first k bytes n) ≡ true) step.here inv.read in
    let filled : take i c.loop-index.records ≡ map fresh (heights_read k bytes i) = subst (λ n. take n c.loop-index.records ≡ map fresh (heights_read k bytes n)) step.here inv.filled in
    let read = joins k bytes i height before (ap k.reads step.chunk_is ∙ sym c.read_whole.ensures ∙ c.unwrap-height.ensures) in
    record {
      at = step.left;
      read = ap (λ n. is_ok (read_first k bytes n)) step.next ∙ read.0;
      long = length-set c.loop-index.records i (fresh height) ∙ inv.long;
      filled = ap (λ n. take n (set c.loop-index.records i (fresh height))) step.next
          ∙ take_more_set c.loop-index.records i (fresh height) below
          ∙ ap (λ t. t ++ (fresh height ∷ [])) filled
          ∙ sym (map_push fresh (heights_read k bytes i) height)
          ∙ ap (map fresh) (sym read.1)
          ∙ ap (λ n. map fresh (heights_read k bytes n)) (sym step.next);
    }

pub returns : goal.returns
returns g c =
    let inv = c.loop-index.invariant in
    let all = all_came g.H.HeightKind.wide (length c.args.records.now) c.args.bytes.now c.loop-index.index-iterator c.next.new.self inv.at c.in-None.ensures.steps c.requires.enough in
    sym (take_all (length c.args.records.now) c.loop-index.records (omega (arith, inv.long))) ∙ subst (λ n. take n c.loop-index.records ≡ map fresh (heights_read (storage g.H.HeightKind.wide g.H.HeightKind.reads) c.args.bytes.now n)) all inv.filled
