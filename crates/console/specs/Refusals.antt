-- The answers that tell why a line was not carried out.
use Rattle.std.specs.Prelude.{ℕ, Ok, Err, Result}
use Rattle.siting_box.specs.Denials.{number}
use Rattle.console_text.specs.declared.answers.Answer.{Answer}
use Rattle.console_text.specs.declared.answers.Answer.TheVariants as answer
use Rattle.console.specs.declared.session.NotDone.{NotDone}
use Rattle.console.specs.declared.session.NotDone.TheVariants.{NoForm, Denied}
use Rattle.console.specs.Sessions.{denial_answer}

-- the number of the question that was answered no; 13 is "is the line one of the console's forms"
abbrev pub question : {C : Type 0} → NotDone C → ℕ
question NoForm = 13
question (Denied denial) = number denial

-- the answer that tells why a line was not carried out
abbrev pub refusal : {C : Type 0} → NotDone C → Answer
refusal NoForm = answer.Denied 13
refusal (Denied denial) = denial_answer denial

-- the answer to a line: what came of it, or why nothing did
abbrev pub answer_of : {C : Type 0} → Result Answer (NotDone C) → Answer
answer_of (Ok answer) = answer
answer_of (Err reason) = refusal reason
