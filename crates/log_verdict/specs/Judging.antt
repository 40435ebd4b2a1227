-- What a setup and a log come to, of their bytes alone.
use Rattle.std.specs.Prelude.{◌≡◌, ℕ, List, Some, map, slice_get}
use Rattle.base_types.specs.declared.verdict.placed.Outcome.{Outcome}
use Rattle.base_types.specs.declared.verdict.placed.Outcome.TheVariants as printed
use Rattle.context_intake.specs.Contexts.{IsContextOf, IsRefused}
use Rattle.context_intake.specs.declared.told.Intake.{Intake}
use Rattle.context_intake.specs.declared.told.Intake.TheVariants as told
use Rattle.history_model.specs.Events.{Event}
use Rattle.history_model.specs.Histories.{IsEvent}
use Rattle.history_model.specs.Outcomes as model
use Rattle.log_context.specs.Answered.{names}
use Rattle.log_context.specs.Histories.{history_of}
use Rattle.log_context.specs.Known.{Known}
use Rattle.window_writes.specs.Lines.{write_line}
use Rattle.log_verdict.specs.declared.judged.JudgedLog.{JudgedLog}
use Rattle.log_verdict.specs.declared.judged.JudgedLog.TheVariants.{Refused, Verdict}

-- the outcome with the line and the name of its event, and with the texts of keys
abbrev pub IsPrinted : Known → model.Outcome → Outcome → Type 0
IsPrinted known (model.Explained lines) outcome = outcome ≡ printed.Explained lines
IsPrinted known (model.Unexplained number reason low high writes) outcome =
    (event : Event) × (name : List ℕ) × IsEvent (history_of known) number event
    × (slice_get (names known.setup known.events) number ≡ Some name)
    × (outcome ≡ printed.Unexplained event.line name reason low high (map write_line writes))

-- the outcome of the history that a setup and the events of a log tell
pub record IsOutcomeOf (known : Known) (outcome : Outcome) : Type 0 where
  pub found : model.Outcome
  pub is : model.IsOutcome (history_of known) found
  pub printed : IsPrinted known found outcome

-- what they come to, of what they tell
abbrev pub IsJudgedFrom : Intake → JudgedLog → Type 0
IsJudgedFrom (told.Refused refusal) judged = judged ≡ Refused refusal
IsJudgedFrom (told.Context known) judged = (outcome : Outcome) × IsOutcomeOf known outcome × (judged ≡ Verdict outcome)

-- what a log comes to, by a setup
abbrev pub IsJudged : List ℕ → List ℕ → JudgedLog → Type 0
IsJudged setup log (Refused refusal) = IsRefused setup log refusal
IsJudged setup log (Verdict outcome) = (known : Known) × IsContextOf setup log known × IsOutcomeOf known outcome
