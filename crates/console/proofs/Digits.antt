-- The digits of a line are no more than the line.
use Rattle.std.proofs.Common.{ℕ, ◌≤◌, List, length, ap, arith, length-append}
use Rattle.console_text.specs.declared.commands.Command.{Command}
use Rattle.console_text.specs.declared.commands.Command.TheVariants as command
use Rattle.console_text.specs.Commands.{Spells}
use Rattle.console.specs.Sessions.{Decodable}

-- a command of a line that is not too long can be decoded
pub decodable : (x : Command) (line : List ℕ) → Spells x line → length line ≤ 9000 → Decodable x
decodable (command.Choose kind counter) line s short = tt
decodable (command.Open width rows radius digits) line s short = let fields = s.2 in (fields.pairs, omega (arith, ap length s.1, ap length fields.text_is, length-append {A = ℕ}))
decodable (command.Alter x y digits) line s short = let fields = s.2 in (fields.pairs, omega (arith, ap length s.1, ap length fields.text_is, length-append {A = ℕ}))
decodable command.Sweep line s short = tt
decodable (command.Tell x y) line s short = tt
decodable (command.Share x y) line s short = tt
decodable (command.Nearest x y) line s short = tt
