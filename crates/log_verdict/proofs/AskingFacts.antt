-- What a question comes to, of what a setup and a log tell.
use Rattle.std.proofs.Common.{ℕ, List, Option, sym, subst}
use Rattle.context_intake.specs.Contexts.{IsToldBy}
use Rattle.context_intake.specs.Taking.{IsReadFor}
use Rattle.context_intake.specs.declared.told.Intake.{Intake}
use Rattle.context_intake.specs.declared.told.Intake.TheVariants as told
use Rattle.history_query.specs.declared.question.Question.{Question}
use Rattle.log_verdict.specs.Answering.{IsHistory, IsHistoryFrom}
use Rattle.log_verdict.specs.Taking.{IsReadToAnswer}
use Rattle.log_verdict.specs.declared.asking.Answered.{Answered}

-- what they tell decides
pub history_told : (setup log : List ℕ) (question : Question) (found : Intake) (answered : Answered) → IsToldBy setup log found → IsHistoryFrom found question answered → IsHistory setup log question answered
history_told setup log question (told.Refused refusal) answered is from = subst (IsHistory setup log question) (sym from) is
history_told setup log question (told.Context known) answered is (text, of, same) = subst (IsHistory setup log question) (sym same) (known, is, of)

-- what they tell was read for what is answered
pub history_read : (setup log : Option (List ℕ)) (question : Question) (found : Intake) (answered : Answered) → IsReadFor found setup log → IsHistoryFrom found question answered → IsReadToAnswer answered setup log
history_read setup log question (told.Refused refusal) answered read from = subst (λ a. IsReadToAnswer a setup log) (sym from) read
history_read setup log question (told.Context known) answered read (text, of, same) = subst (λ a. IsReadToAnswer a setup log) (sym same) read
