-- Two number fields, found one after the other.
use Rattle.std.proofs.Common.{ℕ, [], ◌∷◌}
use Rattle.console_text.specs.Words.{after_spaces}
use Rattle.console_text.specs.Commands.{TwoNumbers}
use Rattle.console_text.proofs.Numerics.{first_field, next_fields}
use Rattle.console_text.proofs.Forms.{two_numbers_or_more}
use Rattle.console_text.proofs.parsing.two_numbers.Goals as goal

pub returns-in_err-first : goal.returns-in_err-first
returns-in_err-first c =
    let none : (x y : ℕ) → TwoNumbers c.args.text.now x y → ⊥ =
    λ x y t. c.in_err-first.ensures x (after_spaces (t.b ∷ [])) (first_field _ t.a (t.b ∷ []) x t.text_is t.first)
    in
    rw c.from_residual.ensures none

pub returns-in_err-second : goal.returns-in_err-second
returns-in_err-second c =
    let p = c.in_ok-first.ensures in
    let none : (x y : ℕ) → TwoNumbers c.args.text.now x y → ⊥ =
    λ x y t. c.in_err-second.ensures y [] (first_field _ t.b [] y (next_fields _ _ _ t.a (t.b ∷ []) x p t.text_is t.first) t.second)
    in
    rw c.from_residual-in_err-second.ensures none

pub returns : goal.returns
returns c =
    rw c.then_some.ensures (two_numbers_or_more _ _ _ _ _ _ c.is_empty.ensures c.in_ok-first.ensures c.in_ok-second.ensures)
