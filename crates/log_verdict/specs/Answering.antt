-- What a question comes to by a setup and a log, of their bytes alone.
use Rattle.std.specs.Prelude.{◌≡◌, ℕ, List}
use Rattle.context_intake.specs.Contexts.{IsContextOf, IsRefused}
use Rattle.context_intake.specs.declared.told.Intake.{Intake}
use Rattle.context_intake.specs.declared.told.Intake.TheVariants as told
use Rattle.history_query.specs.Questions.{IsHistoryText}
use Rattle.history_query.specs.declared.question.Question.{Question}
use Rattle.log_context.specs.Known.{Known}
use Rattle.log_verdict.specs.declared.asking.Answered.{Answered}
use Rattle.log_verdict.specs.declared.asking.Answered.TheVariants.{Refused, History}

-- what the question comes to, of what they tell
abbrev pub IsHistoryFrom : Intake → Question → Answered → Type 0
IsHistoryFrom (told.Refused refusal) question found = found ≡ Refused refusal
IsHistoryFrom (told.Context known) question found = (text : List ℕ) × IsHistoryText known question text × (found ≡ History text)

-- what the question comes to, by a setup and a log, whatever the verdict of the log is
abbrev pub IsHistory : List ℕ → List ℕ → Question → Answered → Type 0
IsHistory setup log question (Refused refusal) = IsRefused setup log refusal
IsHistory setup log question (History text) = (known : Known) × IsContextOf setup log known × IsHistoryText known question text
