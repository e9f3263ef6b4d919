use Rattle.std.proofs.Common.{◌≡◌, true, is_ok}
use Rattle.std.specs.Iterator.Adapters.{enumerate_count}
use Rattle.heights.specs.Meaning.{storage}
use Rattle.siting_box.specs.Stored.{read_first}
use Rattle.siting_box.proofs.Chunks.{AtChunk}
use Rattle.siting_box.proofs.stored.check_all.Given as goal

abbrev pub invariant-loop-index : goal.invariant-loop-index
invariant-loop-index g l = record {
  at : AtChunk g.H.HeightKind.wide l.bytes l.index-iterator;
  read : is_ok (read_first (storage g.H.HeightKind.wide g.H.HeightKind.reads) l.bytes (enumerate_count l.index-iterator)) ≡ true;
}
