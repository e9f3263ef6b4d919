-- Two numbers after their letter write the line.
use Rattle.std.proofs.Common.{arith, rules}
use Rattle.console_text.proofs.Cutting.{first_and_rest}
use Rattle.console_text.proofs.Forms.{place_line}
use Rattle.console_text.proofs.parsing.parse.Goals as goal

pub returns-in-T : goal.returns-in-T
returns-in-T c =
    place_line _ 84 _ _ _ _ (first_and_rest _ 84 (omega arith) c.in-T.is) (λ x l f. search rules) (λ p x m t. search rules) c.two_numbers.ensures c.map.ensures.cases

pub returns-in-H : goal.returns-in-H
returns-in-H c =
    place_line _ 72 _ _ _ _ (first_and_rest _ 72 (omega arith) c.in-H.is) (λ x l f. search rules) (λ p x m t. search rules) c.two_numbers-in-H.ensures c.map-in-H.ensures.cases

pub returns-in-N : goal.returns-in-N
returns-in-N c =
    place_line _ 78 _ _ _ _ (first_and_rest _ 78 (omega arith) c.in-N.is) (λ x l f. search rules) (λ p x m t. search rules) c.two_numbers-in-N.ensures c.map-in-N.ensures.cases
