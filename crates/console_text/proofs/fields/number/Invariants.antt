-- The value of the digits so far, which is below ten to their count.
use Rattle.std.proofs.Common.{◌≡◌, ℕ, ◌^◌, ◌<◌, get_or, take}
use Rattle.console_text.specs.Numerals.{value_of, Digit}
use Rattle.console_text.proofs.fields.number.Given as goal

abbrev pub invariant-loop-byte : goal.invariant-loop-byte
invariant-loop-byte l =
    (l.value ≡ value_of (take l.byte-index l.field))
    × (l.value < 10 ^ l.byte-index)
    × ((k : ℕ) → k < l.byte-index → Digit (get_or l.field k 0))
