-- Kind W: signed 16-bit whole metres, most significant byte first.
use Rattle.std.specs.Prelude.{ℕ, ◌+◌, ◌*◌, List, ℤ, Ok, Result, slice_index}
use Rattle.std.specs.Int.{w16}
use Rattle.std.proofs.Common.{to_z}
use Rattle.heights.specs.declared.whole.NoCause.{NoCause}

-- every two bytes read: the 16-bit pattern in two's complement
abbrev pub whole_reads : List ℕ → Result ℤ NoCause
whole_reads bytes = Ok (to_z w16 (slice_index bytes 0 * 256 + slice_index bytes 1))
