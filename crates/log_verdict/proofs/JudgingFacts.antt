-- What a setup and a log come to.
use Rattle.std.proofs.Common.{ℕ, List, Option, sym, subst}
use Rattle.context_intake.specs.Contexts.{IsToldBy}
use Rattle.context_intake.specs.Taking.{IsReadFor}
use Rattle.context_intake.specs.declared.told.Intake.{Intake}
use Rattle.context_intake.specs.declared.told.Intake.TheVariants as told
use Rattle.log_verdict.specs.Judging.{IsJudged, IsJudgedFrom}
use Rattle.log_verdict.specs.Taking.{IsReadToJudge}
use Rattle.log_verdict.specs.declared.judged.JudgedLog.{JudgedLog}

-- what they tell decides
pub judged_told : (setup log : List ℕ) (found : Intake) (judged : JudgedLog) → IsToldBy setup log found → IsJudgedFrom found judged → IsJudged setup log judged
judged_told setup log (told.Refused refusal) judged is from = subst (IsJudged setup log) (sym from) is
judged_told setup log (told.Context known) judged is (outcome, found, same) = subst (IsJudged setup log) (sym same) (known, is, found)

-- what they tell was read for what they come to
pub judged_read : (setup log : Option (List ℕ)) (found : Intake) (judged : JudgedLog) → IsReadFor found setup log → IsJudgedFrom found judged → IsReadToJudge judged setup log
judged_read setup log (told.Refused refusal) judged read from = subst (λ j. IsReadToJudge j setup log) (sym from) read
judged_read setup log (told.Context known) judged read (outcome, found, same) = subst (λ j. IsReadToJudge j setup log) (sym same) read
