-- The fields of a line, found one after the other; each letter is that of one form.
use Rattle.std.proofs.Common.{◌≡◌, ℕ, cond, eqb, List, [], ◌∷◌, length, Some, None, Option, sym, refl, ap, ◌∙◌, subst, rules, MatchOption, Bool, true, false, true-eqb, false-eqb}
use Rattle.std.specs.Prelude.{IsSomeAnd}
use Rattle.std.proofs.lemmas.List.{append-nil, nil_from_length}
use Rattle.console_text.specs.Words.{after_spaces}
use Rattle.console_text.specs.Fields.{NumberThen}
use Rattle.console_text.specs.Hexadecimal.{HexPairs}
use Rattle.console_text.specs.Commands.{kind_byte, counter_byte, TwoNumbers, PlanFields, CellFields, letter_of, FieldsOf, Spells, Tail}
use Rattle.console_text.specs.declared.commands.KindLetter.{KindLetter}
use Rattle.console_text.specs.declared.commands.CounterLetter.{CounterLetter}
use Rattle.console_text.specs.declared.commands.Command.{Command}
use Rattle.console_text.specs.declared.commands.Command.TheVariants.{Choose, Open, Alter, Sweep, Tell, Share, Nearest}
use Rattle.console_text.proofs.Cutting.{same_first, same_rest}
use Rattle.console_text.proofs.Numerics.{fields_joined, next_fields}
use Rattle.std.specs.Bool.{then_some}

-- two number fields and no more
pub two_numbers : (text : List ℕ) (x : ℕ) (rest : List ℕ) (y : ℕ) (more : List ℕ) → NumberThen text x rest → NumberThen rest y more → more ≡ [] → TwoNumbers text x y
two_numbers text x rest y more p q e = record {
  a = p.numeral;
  b = q.numeral;
  text_is = fields_joined text x rest (q.numeral ∷ []) p (fields_joined rest y more [] q e);
  first = p.writes;
  second = q.writes;
}

-- two number fields, by whether more follows them
pub two_numbers_or_more : (text : List ℕ) (x : ℕ) (rest : List ℕ) (y : ℕ) (more : List ℕ) (t : Bool) → t ≡ eqb (length more) 0 → NumberThen text x rest → NumberThen rest y more → MatchOption {T = ℕ × ℕ} (then_some t (x, y)) ((x y : ℕ) → TwoNumbers text x y → ⊥) (λ p. TwoNumbers text p.0 p.1)
two_numbers_or_more text x rest y more true e p q = two_numbers text x rest y more p q (nil_from_length more (true-eqb (length more) 0 e))
two_numbers_or_more text x rest y more false e p q = λ x y t.
    let rest = next_fields _ _ _ t.a (t.b ∷ []) x p t.text_is t.first in
    let none = next_fields _ _ _ t.b [] y q rest t.second in
    false-eqb (length more) 0 e (ap length none)

-- three number fields and a field of pairs
pub plan : (text : List ℕ) (w : ℕ) (rest : List ℕ) (h : ℕ) (rest' : List ℕ) (r : ℕ) (rest'' digits : List ℕ) → NumberThen text w rest → NumberThen rest h rest' → NumberThen rest' r rest'' → rest'' ≡ 32 ∷ digits → HexPairs digits → PlanFields text w h r digits
plan text w rest h rest' r rest'' digits p q s e pairs =
    let last : rest'' ≡ after_spaces (digits ∷ []) = e ∙ ap (λ t. 32 ∷ t) (sym (append-nil digits)) in
    record {
      a = p.numeral;
      b = q.numeral;
      c = s.numeral;
      text_is = fields_joined text w rest (q.numeral ∷ s.numeral ∷ digits ∷ []) p
          (fields_joined rest h rest' (s.numeral ∷ digits ∷ []) q (fields_joined rest' r rest'' (digits ∷ []) s last));
      first = p.writes;
      second = q.writes;
      third = s.writes;
      pairs = pairs;
    }

-- two number fields and a field of pairs
pub cell : (text : List ℕ) (x : ℕ) (rest : List ℕ) (y : ℕ) (rest' digits : List ℕ) → NumberThen text x rest → NumberThen rest y rest' → rest' ≡ 32 ∷ digits → HexPairs digits → CellFields text x y digits
cell text x rest y rest' digits p q e pairs =
    let last : rest' ≡ after_spaces (digits ∷ []) = e ∙ ap (λ t. 32 ∷ t) (sym (append-nil digits)) in
    record {
      a = p.numeral;
      b = q.numeral;
      text_is = fields_joined text x rest (q.numeral ∷ digits ∷ []) p (fields_joined rest y rest' (digits ∷ []) q last);
      first = p.writes;
      second = q.writes;
      pairs = pairs;
    }

-- the forms of lines, of which each has a letter of its own
pub data Form : Type 0 where
  choose : Form
  open_plan : Form
  alter : Form
  sweep : Form
  tell : Form
  share : Form
  nearest : Form

-- the form of a command
abbrev pub form_of : Command → Form
form_of (Choose kind counter) = choose
form_of (Open width rows radius digits) = open_plan
form_of (Alter x y digits) = alter
form_of Sweep = sweep
form_of (Tell x y) = tell
form_of (Share x y) = share
form_of (Nearest x y) = nearest

-- the letter of a form
abbrev pub letter : Form → ℕ
letter choose = 75
letter open_plan = 79
letter alter = 65
letter sweep = 83
letter tell = 84
letter share = 72
letter nearest = 78

-- the form of a letter
abbrev pub from_letter : ℕ → Form
from_letter n = cond (eqb n 75) choose (cond (eqb n 79) open_plan (cond (eqb n 65) alter (cond (eqb n 83) sweep (cond (eqb n 84) tell (cond (eqb n 72) share nearest)))))

-- a letter leads back to its form: no two forms share one
pub from_letter_of_letter : (f : Form) → from_letter (letter f) ≡ f
from_letter_of_letter choose = refl
from_letter_of_letter open_plan = refl
from_letter_of_letter alter = refl
from_letter_of_letter sweep = refl
from_letter_of_letter tell = refl
from_letter_of_letter share = refl
from_letter_of_letter nearest = refl

-- the letter of the form of a command is that of the command's line
pub letter_of_form : (x : Command) → letter (form_of x) ≡ letter_of x
letter_of_form (Choose kind counter) = refl
letter_of_form (Open width rows radius digits) = refl
letter_of_form (Alter x y digits) = refl
letter_of_form Sweep = refl
letter_of_form (Tell x y) = refl
letter_of_form (Share x y) = refl
letter_of_form (Nearest x y) = refl

-- the text is the fields of some command of a form
abbrev pub FormFields : Form → List ℕ → Type 0
FormFields choose text = (kind : KindLetter) × (counter : CounterLetter) × (text ≡ after_spaces ((kind_byte kind ∷ []) ∷ (counter_byte counter ∷ []) ∷ []))
FormFields open_plan text = (width : ℕ) × (rows : ℕ) × (radius : ℕ) × (digits : List ℕ) × PlanFields text width rows radius digits
FormFields alter text = (x : ℕ) × (y : ℕ) × (digits : List ℕ) × CellFields text x y digits
FormFields sweep text = text ≡ []
FormFields tell text = (x : ℕ) × (y : ℕ) × TwoNumbers text x y
FormFields share text = (x : ℕ) × (y : ℕ) × TwoNumbers text x y
FormFields nearest text = (x : ℕ) × (y : ℕ) × TwoNumbers text x y

-- the fields of a command are those of its form
pub form_fields : (x : Command) (text : List ℕ) → FieldsOf x text → FormFields (form_of x) text
form_fields (Choose kind counter) text f = (kind, counter, f)
form_fields (Open width rows radius digits) text f = (width, rows, radius, digits.now, f)
form_fields (Alter x y digits) text f = (x, y, digits.now, f)
form_fields Sweep text f = f
form_fields (Tell x y) text f = (x, y, f)
form_fields (Share x y) text f = (x, y, f)
form_fields (Nearest x y) text f = (x, y, f)

-- a letter is that of one form alone
pub only : (l : Form) (text : List ℕ) → (FormFields l text → ⊥) → (x : Command) → letter_of x ≡ letter l → FieldsOf x text → ⊥
only l text none x e f =
    let same : form_of x ≡ l = sym (from_letter_of_letter (form_of x)) ∙ ap from_letter (letter_of_form x ∙ e) ∙ from_letter_of_letter l in
    none (subst (λ g. FormFields g text) same (form_fields x text f))

-- where no command of the letter has these fields, none writes the line
pub none_spells : (line : List ℕ) (letter : ℕ) (text : List ℕ) → line ≡ letter ∷ text → ((x : Command) → letter_of x ≡ letter → FieldsOf x text → ⊥) → (x : Command) → Spells x line → ⊥
none_spells line letter text e none x s =
    let same : letter_of x ∷ s.0 ≡ letter ∷ text = sym s.1 ∙ e in
    none x (same_first (letter_of x) letter s.0 text same) (subst (FieldsOf x) (same_rest (letter_of x) letter s.0 text same) s.2)

-- the answer for the fields is the answer for the line
pub spells_from_tail : (line : List ℕ) (letter : ℕ) (text : List ℕ) (r : Option Command) → line ≡ letter ∷ text → Tail letter text r → MatchOption r ((x : Command) → Spells x line → ⊥) (λ x. Spells x line)
spells_from_tail line letter text None e t = none_spells line letter text e t
spells_from_tail line letter text (Some x) e t = (text, e ∙ ap (λ c. c ∷ text) (sym t.0), t.1)

-- where two numbers make a command of a letter, and it has no other, they write the line
pub place_line : (line : List ℕ) (letter : ℕ) (text : List ℕ) (r : Option (ℕ × ℕ)) (s : Option Command) (Makes : ℕ × ℕ → Command → Type 0) → line ≡ letter ∷ text → ((x : Command) → letter_of x ≡ letter → FieldsOf x text → (p : ℕ × ℕ) × TwoNumbers text p.0 p.1) → ((p : ℕ × ℕ) (x : Command) → Makes p x → TwoNumbers text p.0 p.1 → (letter_of x ≡ letter) × FieldsOf x text) → MatchOption r ((x y : ℕ) → TwoNumbers text x y → ⊥) (λ p. TwoNumbers text p.0 p.1) → MatchOption r (s ≡ None) (λ p. IsSomeAnd s (Makes p)) → MatchOption s ((x : Command) → Spells x line → ⊥) (λ x. Spells x line)
place_line line letter text None None Makes e other makes none t = none_spells line letter text e (λ x l f. let o = other x l f in none o.0.0 o.0.1 o.1)
place_line line letter text None (Some x) Makes e other makes none t = absurd (search rules)
place_line line letter text (Some p) None Makes e other makes two t = absurd t
place_line line letter text (Some p) (Some x) Makes e other makes two t = let m = makes p x t two in (text, e ∙ ap (λ c. c ∷ text) (sym m.0), m.1)
