use Rattle.std.proofs.Common.{◌≡◌, true, map, length, take, is_ok}
use Rattle.std.specs.Iterator.Adapters.{enumerate_count}
use Rattle.heights.specs.Meaning.{storage}
use Rattle.siting_box.specs.Stored.{read_first}
use Rattle.siting_box.specs.Fresh.{fresh, heights_read}
use Rattle.siting_box.proofs.Chunks.{AtChunk}
use Rattle.siting_box.proofs.stored.fill.Given as goal

abbrev pub invariant-loop-index : goal.invariant-loop-index
invariant-loop-index g l = record {
  at : AtChunk g.H.HeightKind.wide l.bytes l.index-iterator;
  read : is_ok (read_first (storage g.H.HeightKind.wide g.H.HeightKind.reads) l.bytes (enumerate_count l.index-iterator)) ≡ true;
  long : length l.records ≡ length l.initial.records;
  filled : take (enumerate_count l.index-iterator) l.records ≡ map fresh (heights_read (storage g.H.HeightKind.wide g.H.HeightKind.reads) l.bytes (enumerate_count l.index-iterator));
}
