-- What a setup and a log come to where moments are asked for, of their bytes alone.
use Rattle.std.specs.Prelude.{◌≡◌, ℕ, List}
use Rattle.base_types.specs.declared.verdict.placed.Outcome.{Outcome}
use Rattle.base_types.specs.declared.verdict.placed.Outcome.TheVariants.{Explained, Unexplained}
use Rattle.context_intake.specs.Contexts.{IsContextOf}
use Rattle.context_intake.specs.declared.told.Intake.{Intake}
use Rattle.context_intake.specs.declared.told.Intake.TheVariants as told
use Rattle.log_moments.specs.Answers.{IsStrictAnswer}
use Rattle.log_moments.specs.declared.answer.StrictAnswer.{StrictAnswer}
use Rattle.log_context.specs.Histories.{history_of}
use Rattle.log_context.specs.Known.{Known}
use Rattle.log_verdict.specs.Judging.{IsJudged, IsOutcomeOf}
use Rattle.log_verdict.specs.declared.judged.JudgedLog.{JudgedLog}
use Rattle.log_verdict.specs.declared.judged.JudgedLog.TheVariants as judged
use Rattle.log_verdict.specs.declared.strictly.StrictlyJudged.{StrictlyJudged}
use Rattle.log_verdict.specs.declared.strictly.StrictlyJudged.TheVariants.{Plain, Settled}

abbrev pub IsExplained : Outcome → Type 0
IsExplained (Explained lines) = Unit {0}
IsExplained (Unexplained line audit_id reason low high writes) = ⊥

-- moments are asked for where the log is explained alone
abbrev pub IsLeftPlain : JudgedLog → Type 0
IsLeftPlain (judged.Refused refusal) = Unit {0}
IsLeftPlain (judged.Verdict outcome) = IsExplained outcome → ⊥

-- the outcome of the history, and its strict answer
pub record AreSettled (known : Known) (outcome : Outcome) (answer : StrictAnswer) : Type 0 where
  pub is : IsOutcomeOf known outcome
  pub explained : IsExplained outcome
  pub strict : IsStrictAnswer (history_of known) answer

-- what a log comes to, by a setup
abbrev pub IsStrictlyJudged : List ℕ → List ℕ → StrictlyJudged → Type 0
IsStrictlyJudged setup log (Plain found) = IsJudged setup log found × IsLeftPlain found
IsStrictlyJudged setup log (Settled outcome answer) = (known : Known) × IsContextOf setup log known × AreSettled known outcome answer

-- what the setup and the log come to, of what they tell
abbrev pub IsSettledFrom : Known → StrictlyJudged → Type 0
IsSettledFrom known (Plain (judged.Refused refusal)) = ⊥
IsSettledFrom known (Plain (judged.Verdict outcome)) = IsOutcomeOf known outcome × (IsExplained outcome → ⊥)
IsSettledFrom known (Settled outcome answer) = AreSettled known outcome answer

abbrev pub IsStrictlyFrom : Intake → StrictlyJudged → Type 0
IsStrictlyFrom (told.Refused refusal) found = found ≡ Plain (judged.Refused refusal)
IsStrictlyFrom (told.Context known) found = IsSettledFrom known found
