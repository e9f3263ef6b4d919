-- The first bytes are written over the front of `out`.
use Rattle.std.proofs.Common.{◌≡◌, ◌++◌, take, drop}
use Rattle.console_text.specs.Hexadecimal.{bytes_of}
use Rattle.console_text.proofs.hexadecimal.write_pairs.Given as goal

abbrev pub invariant-loop-i : goal.invariant-loop-i
invariant-loop-i l = l.out ≡ take l.i (bytes_of l.digits) ++ drop l.i l.initial.out
