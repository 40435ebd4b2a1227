-- What a setup and a log come to where moments are asked for, of what they tell.
use Rattle.std.proofs.Common.{ℕ, List, Option, sym, subst}
use Rattle.context_intake.specs.Contexts.{IsToldBy}
use Rattle.context_intake.specs.Taking.{IsReadFor}
use Rattle.context_intake.specs.declared.told.Intake.{Intake}
use Rattle.context_intake.specs.declared.told.Intake.TheVariants as told
use Rattle.log_verdict.specs.Strictly.{IsStrictlyFrom, IsStrictlyJudged}
use Rattle.log_verdict.specs.Taking.{IsReadToSettle}
use Rattle.log_verdict.specs.declared.judged.JudgedLog.TheVariants.{Refused, Verdict}
use Rattle.log_verdict.specs.declared.strictly.StrictlyJudged.{StrictlyJudged}
use Rattle.log_verdict.specs.declared.strictly.StrictlyJudged.TheVariants.{Plain, Settled}

pub strictly_told : (setup log : List ℕ) (found : Intake) (judged : StrictlyJudged) → IsToldBy setup log found → IsStrictlyFrom found judged → IsStrictlyJudged setup log judged
strictly_told setup log (told.Refused refusal) judged is from = subst (IsStrictlyJudged setup log) (sym from) (is, tt)
strictly_told setup log (told.Context known) (Plain (Refused refusal)) is from = absurd from
strictly_told setup log (told.Context known) (Plain (Verdict outcome)) is from = ((known, is, from.0), from.1)
strictly_told setup log (told.Context known) (Settled outcome answer) is from = (known, is, from)

-- what they tell was read for what they come to
pub strictly_read : (setup log : Option (List ℕ)) (found : Intake) (judged : StrictlyJudged) → IsReadFor found setup log → IsStrictlyFrom found judged → IsReadToSettle judged setup log
strictly_read setup log (told.Refused refusal) judged read from = subst (λ j. IsReadToSettle j setup log) (sym from) read
strictly_read setup log (told.Context known) (Plain (Refused refusal)) read from = absurd from
strictly_read setup log (told.Context known) (Plain (Verdict outcome)) read from = read
strictly_read setup log (told.Context known) (Settled outcome answer) read from = read
