-- How a text is cut into its fields, for the functions that read one field. 32 is the space.
use Rattle.std.specs.Prelude.{◌≡◌, ℕ, cond, ◌⊎◌, List, [], ◌∷◌, ◌++◌, ◌==◌}
use Rattle.console_text.specs.Numerals.{Writes}

-- a text up to its first space
abbrev pub word : List ℕ → List ℕ
word [] = []
word (c ∷ cs) = cond (c == 32) [] (c ∷ word cs)

-- a text from its first space on
abbrev pub after_word : List ℕ → List ℕ
after_word [] = []
after_word (c ∷ cs) = cond (c == 32) (c ∷ cs) (after_word cs)

-- nothing, or a space and more
abbrev pub Ends : List ℕ → Type 0
Ends text = (text ≡ []) ⊎ ((more : List ℕ) × (text ≡ 32 ∷ more))

-- the text is a space, a numeral for n, and the rest, which is empty or begins with a space
pub record NumberThen (text : List ℕ) (n : ℕ) (rest : List ℕ) : Type 0 where
  pub numeral : List ℕ
  pub text_is : text ≡ 32 ∷ (numeral ++ rest)
  pub ends : Ends rest
  pub writes : Writes numeral n
