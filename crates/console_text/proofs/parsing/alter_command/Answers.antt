-- Two number fields and a field of pairs, found one after the other.
use Rattle.std.proofs.Common.{ℕ, List, [], ◌∷◌, ap, ◌∙◌, rules}
use Rattle.std.proofs.lemmas.List.{append-nil}
use Rattle.console_text.specs.Commands.{CellFields}
use Rattle.console_text.proofs.Numerics.{first_field, next_fields}
use Rattle.console_text.proofs.Forms.{cell}
use Rattle.console_text.proofs.parsing.alter_command.Goals as goal

pub returns-in_err-x : goal.returns-in_err-x
returns-in_err-x c =
    let none : (x y : ℕ) (digits : List ℕ) → CellFields c.args.text.now x y digits → ⊥ =
    λ x y digits t. c.in_err-x.ensures x _ (first_field _ t.a (t.b ∷ digits ∷ []) x t.text_is t.first)
    in
    search rules

pub returns-in_err-y : goal.returns-in_err-y
returns-in_err-y c =
    let p = c.in_ok-x.ensures in
    let none : (x y : ℕ) (digits : List ℕ) → CellFields c.args.text.now x y digits → ⊥ =
    λ x y digits t.
    let rest = next_fields _ _ _ t.a (t.b ∷ digits ∷ []) x p t.text_is t.first in
    c.in_err-y.ensures y _ (first_field _ t.b (digits ∷ []) y rest t.second)
    in
    search rules

pub returns-in_err-digits : goal.returns-in_err-digits
returns-in_err-digits c =
    let p = c.in_ok-x.ensures in
    let q = c.in_ok-y.ensures in
    let none : (x y : ℕ) (digits : List ℕ) → CellFields c.args.text.now x y digits → ⊥ =
    λ x y digits t.
    let rest = next_fields _ _ _ t.a (t.b ∷ digits ∷ []) x p t.text_is t.first in
    let rest' = next_fields _ _ _ t.b (digits ∷ []) y q rest t.second in
    c.in_err-digits.ensures digits (rest' ∙ ap (λ ds. 32 ∷ ds) (append-nil digits)) t.pairs
    in
    search rules

pub returns : goal.returns
returns c = search (rules, cell)
