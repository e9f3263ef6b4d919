-- Which line writes which command.
use Rattle.std.specs.Prelude.{◌≡◌, ℕ, List, [], ◌∷◌, Option, MatchOption}
use Rattle.console_text.specs.Words.{after_spaces}
use Rattle.console_text.specs.Numerals.{Writes}
use Rattle.console_text.specs.Hexadecimal.{HexPairs}
use Rattle.console_text.specs.declared.commands.KindLetter.{KindLetter}
use Rattle.console_text.specs.declared.commands.KindLetter.TheVariants.{Whole, Float}
use Rattle.console_text.specs.declared.commands.CounterLetter.{CounterLetter}
use Rattle.console_text.specs.declared.commands.CounterLetter.TheVariants.{FingerList, ShiftArray}
use Rattle.console_text.specs.declared.commands.Command.{Command}
use Rattle.console_text.specs.declared.commands.Command.TheVariants.{Choose, Open, Alter, Sweep, Tell, Share, Nearest}

-- the letter of a kind of heights: W or F
abbrev pub kind_byte : KindLetter → ℕ
kind_byte Whole = 87
kind_byte Float = 70

-- the letter of a counter: L or A
abbrev pub counter_byte : CounterLetter → ℕ
counter_byte FingerList = 76
counter_byte ShiftArray = 65

-- the text is two numbers, each after a space
pub record TwoNumbers (text : List ℕ) (x y : ℕ) : Type 0 where
  pub a : List ℕ
  pub b : List ℕ
  pub text_is : text ≡ after_spaces (a ∷ b ∷ [])
  pub first : Writes a x
  pub second : Writes b y

-- the text is three numbers and pairs of hexadecimal digits, each after a space
pub record PlanFields (text : List ℕ) (width rows radius : ℕ) (digits : List ℕ) : Type 0 where
  pub a : List ℕ
  pub b : List ℕ
  pub c : List ℕ
  pub text_is : text ≡ after_spaces (a ∷ b ∷ c ∷ digits ∷ [])
  pub first : Writes a width
  pub second : Writes b rows
  pub third : Writes c radius
  pub pairs : HexPairs digits

-- the text is two numbers and pairs of hexadecimal digits, each after a space
pub record CellFields (text : List ℕ) (x y : ℕ) (digits : List ℕ) : Type 0 where
  pub a : List ℕ
  pub b : List ℕ
  pub text_is : text ≡ after_spaces (a ∷ b ∷ digits ∷ [])
  pub first : Writes a x
  pub second : Writes b y
  pub pairs : HexPairs digits

-- the letter that a command's line begins with: K, O, A, S, T, H or N
abbrev pub letter_of : Command → ℕ
letter_of (Choose kind counter) = 75
letter_of (Open width rows radius digits) = 79
letter_of (Alter x y digits) = 65
letter_of Sweep = 83
letter_of (Tell x y) = 84
letter_of (Share x y) = 72
letter_of (Nearest x y) = 78

-- the text is a way to write what follows that letter
abbrev pub FieldsOf : Command → List ℕ → Type 0
FieldsOf (Choose kind counter) text = text ≡ after_spaces ((kind_byte kind ∷ []) ∷ (counter_byte counter ∷ []) ∷ [])
FieldsOf (Open width rows radius digits) text = PlanFields text width rows radius digits.now
FieldsOf (Alter x y digits) text = CellFields text x y digits.now
FieldsOf Sweep text = text ≡ []
FieldsOf (Tell x y) text = TwoNumbers text x y
FieldsOf (Share x y) text = TwoNumbers text x y
FieldsOf (Nearest x y) text = TwoNumbers text x y

-- the line is a way to write the command
abbrev pub Spells : Command → List ℕ → Type 0
Spells command line = (text : List ℕ) × (line ≡ letter_of command ∷ text) × FieldsOf command text

-- the answer is a command of this letter whose fields the text writes, if there is one
abbrev pub Tail : ℕ → List ℕ → Option Command → Type 0
Tail letter text r = MatchOption r ((x : Command) → letter_of x ≡ letter → FieldsOf x text → ⊥) (λ x. (letter_of x ≡ letter) × FieldsOf x text)
