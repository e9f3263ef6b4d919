-- The numbers so far are written.
use Rattle.std.proofs.Common.{◌≡◌, ◌+◌, ◌*◌, ◌≤◌, ◌++◌, length, map, take, decimal}
use Rattle.console_text.specs.Words.{after_spaces}
use Rattle.console_text.proofs.text_buffer.TextBuffer.push_fields.Given as goal

abbrev pub invariant-loop-number : goal.invariant-loop-number
invariant-loop-number g l =
    (l.self ≡ l.initial.self ++ after_spaces (map decimal (take l.number-index l.numbers)))
    × (length l.self ≤ length l.initial.self + 21 * l.number-index)
