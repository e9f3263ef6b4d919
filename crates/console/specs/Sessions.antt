-- What the console answers to a line, and what the line does to the box.
use Rattle.std.specs.Prelude.{◌≡◌, ℕ, ◌≤◌, Bool, ◌⊎◌, List, length, Some, None, Ok, Err, Option, Result}
use Rattle.heights.specs.Meaning.{Storage}
use Rattle.counters.specs.Calls.{View}
use Rattle.grid.specs.declared.Higher.{Higher}
use Rattle.siting_box.specs.declared.denial.Denial.{Denial}
use Rattle.siting_box.specs.declared.denial.Denial.TheVariants.{NoPlan, Sizes, TooFewRecords, Outside, StoredLength, Unread, NoRowLeft, TooFewPlaces, NotSwept, RowsLeft}
use Rattle.siting_box.specs.Contents.{Contents}
use Rattle.siting_box.specs.Denials.{denied_by, first_no}
use Rattle.siting_box.specs.declared.told.Told.{Told}
use Rattle.siting_box.specs.Calls.{open_questions, OpenLeaves, alter_questions, AlterLeaves, sweep_questions, SweepLeaves, tell_questions, TellAnswer, share_questions, ShareAnswer, nearest_questions, NearestAnswer}
use Rattle.console_text.specs.declared.answers.Answer.{Answer}
use Rattle.console_text.specs.declared.answers.Answer.TheVariants as answer
use Rattle.console_text.specs.declared.commands.KindLetter.{KindLetter}
use Rattle.console_text.specs.declared.commands.CounterLetter.{CounterLetter}
use Rattle.console_text.specs.declared.commands.Command.{Command}
use Rattle.console_text.specs.declared.commands.Command.TheVariants as command
use Rattle.console_text.specs.Hexadecimal.{HexPairs, bytes_of}
use Rattle.console_text.specs.Commands.{Spells}

-- a denial is told by its number; by question 6 with the cell
abbrev pub denial_answer : {C : Type 0} → Denial C → Answer
denial_answer NoPlan = answer.Denied 1
denial_answer Sizes = answer.Denied 2
denial_answer TooFewRecords = answer.Denied 3
denial_answer Outside = answer.Denied 4
denial_answer StoredLength = answer.Denied 5
denial_answer (Unread cause at) = answer.DeniedAt 6 at.x at.y
denial_answer NoRowLeft = answer.Denied 7
denial_answer TooFewPlaces = answer.Denied 8
denial_answer NotSwept = answer.Denied 9
denial_answer RowsLeft = answer.Denied 10

-- the answer to open and to alter
abbrev pub done_answer : {C : Type 0} → Result Unit (Denial C) → Answer
done_answer (Ok done) = answer.Done
done_answer (Err denial) = denial_answer denial

-- the answer to sweep: the steps
abbrev pub sweep_answer : {C : Type 0} → Result ℕ (Denial C) → Answer
sweep_answer (Ok mileage) = answer.Steps mileage
sweep_answer (Err denial) = denial_answer denial

-- the answer to tell
abbrev pub tell_answer : {C : Type 0} → Result Told (Denial C) → Answer
tell_answer (Ok told) = answer.Told told.count told.cells
tell_answer (Err denial) = denial_answer denial

-- the answer to share
abbrev pub share_answer : {C : Type 0} → Result ℕ (Denial C) → Answer
share_answer (Ok share) = answer.Share share
share_answer (Err denial) = denial_answer denial

-- the answer to nearest
abbrev pub nearest_answer : {C : Type 0} → Result (Option Higher) (Denial C) → Answer
nearest_answer (Ok found) = answer.Nearest found
nearest_answer (Err denial) = denial_answer denial

-- the box was opened, or denied it, and that is what was answered
pub record OpenCarried {X C : Type 0} (k : Storage X C) (width rows radius : ℕ) (digits : List ℕ) (before after : Contents X) (answer : Answer) : Type 0 where
  pub result : Result Unit (Denial C)
  pub denial : denied_by result ≡ first_no (open_questions k before width rows radius (bytes_of digits))
  pub leaves : OpenLeaves k width rows radius (bytes_of digits) before after result
  pub answer_is : answer ≡ done_answer result

-- the cell was altered, or the box denied it, and that is what was answered
pub record AlterCarried {X C : Type 0} (k : Storage X C) (le : X → X → Bool) (x y : ℕ) (digits : List ℕ) (before after : Contents X) (answer : Answer) : Type 0 where
  pub result : Result Unit (Denial C)
  pub denial : denied_by result ≡ first_no (alter_questions k before x y (bytes_of digits))
  pub leaves : AlterLeaves k le x y (bytes_of digits) before after result
  pub answer_is : answer ≡ done_answer result

-- the next row was swept, or the box denied it, and that is what was answered
pub record SweepCarried {X C : Type 0} (k : Storage X C) (le : X → X → Bool) (before after : Contents X) (old new : View X) (answer : Answer) : Type 0 where
  pub result : Result ℕ (Denial C)
  pub denial : denied_by result ≡ first_no (sweep_questions before old.places)
  pub leaves : SweepLeaves le before after old new result
  pub answer_is : answer ≡ sweep_answer result

-- the box told a count, or denied it, and that is what was answered
pub record TellCarried {X C : Type 0} (k : Storage X C) (le : X → X → Bool) (x y : ℕ) (b : Contents X) (answer : Answer) : Type 0 where
  pub result : Result Told (Denial C)
  pub denial : denied_by result ≡ first_no (tell_questions b x y)
  pub told : TellAnswer le b x y result
  pub answer_is : answer ≡ tell_answer result

-- the box told a share, or denied it, and that is what was answered
pub record ShareCarried {X C : Type 0} (k : Storage X C) (le : X → X → Bool) (x y : ℕ) (b : Contents X) (answer : Answer) : Type 0 where
  pub result : Result ℕ (Denial C)
  pub denial : denied_by result ≡ first_no (share_questions b x y)
  pub told : ShareAnswer le b x y result
  pub answer_is : answer ≡ share_answer result

-- the box found what is nearest, or denied it, and that is what was answered
pub record NearestCarried {X C : Type 0} (k : Storage X C) (le : X → X → Bool) (x y : ℕ) (b : Contents X) (answer : Answer) : Type 0 where
  pub result : Result (Option Higher) (Denial C)
  pub denial : denied_by result ≡ first_no (nearest_questions b x y)
  pub found : NearestAnswer le b x y result
  pub answer_is : answer ≡ nearest_answer result

-- the line is denied, and box and counter stand as they did; 13 is "is the line one of the console's forms"
abbrev pub NoForm : {X : Type 0} → (before after : Contents X) → (old new : View X) → Answer → Type 0
NoForm before after old new told = (after ≡ before) × (new ≡ old) × (told ≡ answer.Denied 13)

-- what a command does to box and counter and what is answered; a later choice of kind and counter is no form
abbrev pub Carried : {X C : Type 0} → Storage X C → (X → X → Bool) → Command → (before after : Contents X) → (old new : View X) → Answer → Type 0
Carried k le (command.Choose kind counter) before after old new told = NoForm before after old new told
Carried k le (command.Open width rows radius digits) before after old new told = OpenCarried k width rows radius digits.now before after told × (new ≡ old)
Carried k le (command.Alter x y digits) before after old new told = AlterCarried k le x y digits.now before after told × (new ≡ old)
Carried k le command.Sweep before after old new told = SweepCarried k le before after old new told
Carried k le (command.Tell x y) before after old new told = TellCarried k le x y before told × (after ≡ before) × (new ≡ old)
Carried k le (command.Share x y) before after old new told = ShareCarried k le x y before told × (after ≡ before) × (new ≡ old)
Carried k le (command.Nearest x y) before after old new told = NearestCarried k le x y before told × (after ≡ before) × (new ≡ old)

-- a line is served: the command that it writes is carried out; a line that writes none, or is too long, is denied
abbrev pub Served : {X C : Type 0} → Storage X C → (X → X → Bool) → Option (List ℕ) → (before after : Contents X) → (old new : View X) → Answer → Type 0
Served k le None before after old new told = NoForm before after old new told
Served k le (Some line) before after old new told =
    ((command : Command) × Spells command line × Carried k le command before after old new told)
    ⊎ (((command : Command) → Spells command line → ⊥) × NoForm before after old new told)

-- the digits of a command are pairs of hexadecimal digits, no more than a line can hold
abbrev pub Decodable : Command → Type 0
Decodable (command.Choose kind counter) = Unit {0}
Decodable (command.Open width rows radius digits) = HexPairs digits.now × (length digits.now ≤ 9000)
Decodable (command.Alter x y digits) = HexPairs digits.now × (length digits.now ≤ 9000)
Decodable command.Sweep = Unit {0}
Decodable (command.Tell x y) = Unit {0}
Decodable (command.Share x y) = Unit {0}
Decodable (command.Nearest x y) = Unit {0}

-- the line writes this command, which can be decoded; none where it writes none, as a line that is too long does
abbrev pub WrittenBy : Option (List ℕ) → Option Command → Type 0
WrittenBy None (Some command) = ⊥
WrittenBy None None = Unit {0}
WrittenBy (Some line) (Some command) = Spells command line × Decodable command
WrittenBy (Some line) None = (command : Command) → Spells command line → ⊥

-- the line chooses this kind and this counter; none where it chooses none, as a line that is too long does
abbrev pub ChosenBy : Option (List ℕ) → Option (KindLetter × CounterLetter) → Type 0
ChosenBy None (Some choice) = ⊥
ChosenBy None None = Unit {0}
ChosenBy (Some line) (Some choice) = Spells (command.Choose choice.0 choice.1) line
ChosenBy (Some line) None = (kind : KindLetter) (counter : CounterLetter) → Spells (command.Choose kind counter) line → ⊥
