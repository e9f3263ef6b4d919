-- A text begins with a number field in one way only.
use Rattle.std.proofs.Common.{◌≡◌, ℕ, ◌-◌, ◌<◌, List, [], ◌∷◌, ◌++◌, sym, refl, ap, ◌∙◌, subst, inl, inr, arith}
use Rattle.console_text.specs.Words.{after_spaces}
use Rattle.console_text.specs.Fields.{word, after_word, Ends, NumberThen}
use Rattle.console_text.specs.Numerals.{Digit, Numeral, Writes}
use Rattle.std.specs.Char.{IsDigitOf}
use Rattle.console_text.proofs.Cutting.{Solid, word_append, word_joined, same_rest}

-- a numeral has no space
pub solid_numeral : (ds : List ℕ) → Numeral ds → Solid ds
solid_numeral ds n k h e = omega (arith, n.digits k h)

-- the digit of a number below ten is decimal
pub decimal_digit : (c d : ℕ) → d < 10 → IsDigitOf c d → Digit c × (d ≡ c - 48)
decimal_digit c d few is = elim is [
  | inl low ↦ ((omega arith, omega arith), omega arith)
  | inr letter ↦ elim letter [
    | inl capital ↦ absurd (omega arith)
    | inr small ↦ absurd (omega arith)
  ]
]

-- what stands after spaces is nothing, or begins with a space
pub ends_after : (ws : List (List ℕ)) → Ends (after_spaces ws)
ends_after [] = inl refl
ends_after (w ∷ ws) = inr (w ++ after_spaces ws, refl)

-- the numeral that a text begins with is its word after the space
pub word_of : (after : List ℕ) (n : ℕ) (rest : List ℕ) → NumberThen (32 ∷ after) n rest → Writes (word after) n × (after_word after ≡ rest)
word_of after n rest h =
    let same : after ≡ h.numeral ++ rest = same_rest 32 32 _ _ h.text_is in
    let parts = word_append h.numeral rest (solid_numeral h.numeral h.writes.0) h.ends in (
      subst (λ ds. Writes ds n) (sym (ap word same ∙ parts.0)) h.writes,
      ap after_word same ∙ parts.1,
    )

-- where the word after the space is no numeral, the text begins with no number field
pub no_number : (text after field : List ℕ) → text ≡ 32 ∷ after → field ≡ word after → (Numeral field → ⊥) → (n : ℕ) (rest : List ℕ) → NumberThen text n rest → ⊥
no_number text after field e f none n rest h =
    none (subst Numeral (sym f) (word_of after n rest (subst (λ t. NumberThen t n rest) e h)).0.0)

-- where the word after the space is a numeral, the text begins with a number field
pub number_then : (text after field rest : List ℕ) (n : ℕ) → text ≡ 32 ∷ after → field ≡ word after → rest ≡ after_word after → Writes field n → NumberThen text n rest
number_then text after field rest n e f r w =
    let parts = word_joined after in
    record {
      numeral = field;
      text_is = e ∙ ap (λ t. 32 ∷ t) (sym parts.0 ∙ ap (λ t. t ++ after_word after) (sym f) ∙ ap (λ t. field ++ t) (sym r));
      ends = subst Ends (sym r) parts.1;
      writes = w;
    }

-- the first of several words after spaces
pub first_field : (text a : List ℕ) (ws : List (List ℕ)) (n : ℕ) → text ≡ after_spaces (a ∷ ws) → Writes a n → NumberThen text n (after_spaces ws)
first_field text a ws n e w = record { numeral = a; text_is = e; ends = ends_after ws; writes = w }

-- after the number field come the other words
pub next_fields : (text : List ℕ) (m : ℕ) (rest a : List ℕ) (ws : List (List ℕ)) (n : ℕ) → NumberThen text m rest → text ≡ after_spaces (a ∷ ws) → Writes a n → rest ≡ after_spaces ws
next_fields text m rest a ws n h e w =
    let same : h.numeral ++ rest ≡ a ++ after_spaces ws = same_rest 32 32 _ _ (sym h.text_is ∙ e) in
    let here = word_append h.numeral rest (solid_numeral h.numeral h.writes.0) h.ends in
    let there = word_append a (after_spaces ws) (solid_numeral a w.0) (ends_after ws) in
    sym here.1 ∙ ap after_word same ∙ there.1

-- a number field and then words after spaces are words after spaces
pub fields_joined : (text : List ℕ) (n : ℕ) (rest : List ℕ) (ws : List (List ℕ)) (h : NumberThen text n rest) → rest ≡ after_spaces ws → text ≡ after_spaces (h.numeral ∷ ws)
fields_joined text n rest ws h e = h.text_is ∙ ap (λ r. 32 ∷ (h.numeral ++ r)) e
