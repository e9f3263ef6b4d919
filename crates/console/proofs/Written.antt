-- What is done with the command that a line writes.
use Rattle.std.proofs.Common.{ℕ, Bool, List, Some, None, Option, inl}
use Rattle.heights.specs.Meaning.{Storage}
use Rattle.counters.specs.Calls.{View}
use Rattle.siting_box.specs.Contents.{Contents}
use Rattle.console_text.specs.declared.answers.Answer.{Answer}
use Rattle.console_text.specs.declared.commands.Command.{Command}
use Rattle.console_text.specs.declared.commands.Command.TheVariants.{Choose}
use Rattle.console.specs.Sessions.{Carried, Served, WrittenBy, ChosenBy}

-- a line whose command is carried out is served
pub served_as : {X C : Type 0} (k : Storage X C) (le : X → X → Bool) (line : Option (List ℕ)) (command : Command) (before after : Contents X) (old new : View X) (answer : Answer)
    → WrittenBy line (Some command) → Carried k le command before after old new answer → Served k le line before after old new answer
served_as k le None command before after old new answer w carried = absurd w
served_as k le (Some line) command before after old new answer w carried = inl (command, w.0, carried)

-- a line that writes no command chooses nothing
pub none_chosen : (line : Option (List ℕ)) → WrittenBy line None → ChosenBy line None
none_chosen None w = tt
none_chosen (Some line) w = λ kind counter s. w (Choose kind counter) s
