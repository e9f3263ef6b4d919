-- Three number fields and a field of pairs, found one after the other.
use Rattle.std.proofs.Common.{ℕ, List, [], ◌∷◌, ap, ◌∙◌, rules}
use Rattle.std.proofs.lemmas.List.{append-nil}
use Rattle.console_text.specs.Commands.{PlanFields}
use Rattle.console_text.proofs.Numerics.{first_field, next_fields}
use Rattle.console_text.proofs.Forms.{plan}
use Rattle.console_text.proofs.parsing.open_command.Goals as goal

pub returns-in_err-width : goal.returns-in_err-width
returns-in_err-width c =
    let none : (w h r : ℕ) (digits : List ℕ) → PlanFields c.args.text.now w h r digits → ⊥ =
    λ w h r digits t. c.in_err-width.ensures w _ (first_field _ t.a (t.b ∷ t.c ∷ digits ∷ []) w t.text_is t.first)
    in
    search rules

pub returns-in_err-rows : goal.returns-in_err-rows
returns-in_err-rows c =
    let p = c.in_ok-width.ensures in
    let none : (w h r : ℕ) (digits : List ℕ) → PlanFields c.args.text.now w h r digits → ⊥ =
    λ w h r digits t.
    let rest = next_fields _ _ _ t.a (t.b ∷ t.c ∷ digits ∷ []) w p t.text_is t.first in
    c.in_err-rows.ensures h _ (first_field _ t.b (t.c ∷ digits ∷ []) h rest t.second)
    in
    search rules

pub returns-in_err-radius : goal.returns-in_err-radius
returns-in_err-radius c =
    let p = c.in_ok-width.ensures in
    let q = c.in_ok-rows.ensures in
    let none : (w h r : ℕ) (digits : List ℕ) → PlanFields c.args.text.now w h r digits → ⊥ =
    λ w h r digits t.
    let rest = next_fields _ _ _ t.a (t.b ∷ t.c ∷ digits ∷ []) w p t.text_is t.first in
    let rest' = next_fields _ _ _ t.b (t.c ∷ digits ∷ []) h q rest t.second in
    c.in_err-radius.ensures r _ (first_field _ t.c (digits ∷ []) r rest' t.third)
    in
    search rules

pub returns-in_err-digits : goal.returns-in_err-digits
returns-in_err-digits c =
    let p = c.in_ok-width.ensures in
    let q = c.in_ok-rows.ensures in
    let s = c.in_ok-radius.ensures in
    let none : (w h r : ℕ) (digits : List ℕ) → PlanFields c.args.text.now w h r digits → ⊥ =
    λ w h r digits t.
    let rest = next_fields _ _ _ t.a (t.b ∷ t.c ∷ digits ∷ []) w p t.text_is t.first in
    let rest' = next_fields _ _ _ t.b (t.c ∷ digits ∷ []) h q rest t.second in
    let rest'' = next_fields _ _ _ t.c (digits ∷ []) r s rest' t.third in
    c.in_err-digits.ensures digits (rest'' ∙ ap (λ ds. 32 ∷ ds) (append-nil digits)) t.pairs
    in
    search rules

pub returns : goal.returns
returns c = search (rules, plan)
