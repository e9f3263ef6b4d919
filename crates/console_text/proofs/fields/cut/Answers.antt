-- The parts are those at the first space, or the whole text and nothing.
use Rattle.std.proofs.Common.{◌≡◌, ◌∙◌, ap, take, drop, rules}
use Rattle.std.proofs.lemmas.Iterator.{IsFirst-from_position, YieldsList-from_slice}
use borrow.Author.Tests.{tests}
use Rattle.console_text.proofs.Cutting.{cut_at}
use Rattle.console_text.proofs.fields.cut.Goals as goal

pub returns : goal.returns
returns c =
    let found = IsFirst-from_position _ _ _ (λ x. x ≡ 32) (λ x. x ≡ 32 → ⊥) c.position-end.ensures.ran (YieldsList-from_slice c.args.text.now cc) (λ x q k. search (rules, tests)) (λ x q k. search (rules, tests)) in
    let parts = cut_at c.args.text.now _ found in
    record {
      front = c.split_at.ensures.front ∙ ap (λ n. take n c.args.text.now) c.unwrap_or.ensures ∙ parts.0;
      back = c.split_at.ensures.back ∙ ap (λ n. drop n c.args.text.now) c.unwrap_or.ensures ∙ parts.1;
    }
