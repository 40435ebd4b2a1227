-- What judging and checking come to, as a status and a text.
use Rattle.std.specs.Prelude.{◌≡◌, ℕ, ◌∷◌, [], ◌++◌, List, codes, decimal}
use Rattle.audit_event.specs.Rules.{rank}
use Rattle.base_types.specs.declared.verdict.placed.Outcome.{Outcome}
use Rattle.base_types.specs.declared.verdict.placed.Outcome.TheVariants.{Explained, Unexplained}
use Rattle.base_types.specs.declared.verdict.placed.PlacedLine.{PlacedLine}
use Rattle.context_intake.specs.Refusals.{limit_word}
use Rattle.context_intake.specs.declared.refusal.Refusal.{Refusal}
use Rattle.context_intake.specs.declared.refusal.Refusal.TheVariants.{BrokenSetup, MalformedLog, PastLimit}
use Rattle.log_moments.specs.Texts.{answer_text}
use Rattle.log_moments.specs.declared.answer.StrictAnswer.{StrictAnswer}
use Rattle.log_moments.specs.declared.answer.StrictAnswer.TheVariants as strict
use Rattle.serial_machine.specs.Texts.{checked_text}
use Rattle.serial_machine.specs.declared.checked.Checked.{Checked}
use Rattle.serial_machine.specs.declared.checked.Checked.TheVariants.{Holds, Wrong}
use Rattle.setup_file.specs.Rules.{rule_number}
use Rattle.verdict_text.specs.Outcome.{explained_text, outcome_text}
use Rattle.verdict_text.specs.Reading.{IsPlacement}
use Rattle.verdict_text.specs.Words.{ended, spaced}
use Rattle.log_verdict.specs.declared.asking.Answered.{Answered}
use Rattle.log_verdict.specs.declared.asking.Answered.TheVariants as answered
use Rattle.log_verdict.specs.declared.judged.JudgedLog.{JudgedLog}
use Rattle.log_verdict.specs.declared.judged.JudgedLog.TheVariants.{Refused, Verdict}
use Rattle.log_verdict.specs.declared.report.Report.{Report}
use Rattle.log_verdict.specs.declared.report.Status.{Status}
use Rattle.log_verdict.specs.declared.report.Status.TheVariants as statuses
use Rattle.log_verdict.specs.declared.strictly.StrictlyJudged.{StrictlyJudged}
use Rattle.log_verdict.specs.declared.strictly.StrictlyJudged.TheVariants.{Plain, Settled}
use Rattle.log_verdict.specs.declared.verified.Verified.{Verified}
use Rattle.log_verdict.specs.declared.verified.Verified.TheVariants as verified

-- a status and the text that goes with it
pub record Answer : Type 0 where
  pub status : ℕ
  pub text : List ℕ

abbrev pub answer : ℕ → List ℕ → Answer
answer status text = record { status = status; text = text }

abbrev pub status_number : Status → ℕ
status_number statuses.Explained = 0
status_number statuses.Unexplained = 1
status_number statuses.SetupRefused = 3
status_number statuses.LogRefused = 4
status_number statuses.LimitPassed = 7

abbrev pub report_answer : Report → Answer
report_answer report = answer (status_number report.status) report.text

-- `setup CODE`, `malformed LINE CODE` or `limit NAME`
abbrev pub refusal_answer : Refusal → Answer
refusal_answer (BrokenSetup rule) = answer 3 (ended (spaced (codes "setup" ∷ (codes "S" ++ decimal (rule_number rule)) ∷ [])))
refusal_answer (MalformedLog line code) =
    answer 4 (ended (spaced (codes "malformed" ∷ decimal line ∷ (codes "M" ++ decimal (rank code)) ∷ [])))
refusal_answer (PastLimit limit) = answer 7 (ended (spaced (codes "limit" ∷ limit_word limit ∷ [])))

abbrev pub outcome_status : Outcome → ℕ
outcome_status (Explained lines) = 0
outcome_status (Unexplained line audit_id reason low high writes) = 1

-- the verdict's text, or why there is none
abbrev pub judged_answer : JudgedLog → Answer
judged_answer (Refused refusal) = refusal_answer refusal
judged_answer (Verdict outcome) = answer (outcome_status outcome) (outcome_text outcome)

-- the outcome's text with the moments behind it, or the two lines that cross
abbrev pub settled_answer : Outcome → StrictAnswer → Answer
settled_answer outcome (strict.Strict lines) = answer 0 (outcome_text outcome ++ answer_text (strict.Strict lines))
settled_answer outcome (strict.Crossed first second) = answer 1 (answer_text (strict.Crossed first second))

abbrev pub strictly_answer : StrictlyJudged → Answer
strictly_answer (Plain judged) = judged_answer judged
strictly_answer (Settled outcome moments) = settled_answer outcome moments

abbrev pub checked_status : Checked → ℕ
checked_status Holds = 0
checked_status (Wrong line code) = 1

-- what a placement comes to, or why it isn't checked
abbrev pub verified_answer : Verified → Answer
verified_answer (verified.Refused refusal) = refusal_answer refusal
verified_answer verified.TooLong = answer 7 (ended (spaced (codes "limit" ∷ codes "placement" ∷ [])))
verified_answer (verified.Misspelt line) = answer 4 (ended (spaced (codes "placement" ∷ decimal line ∷ [])))
verified_answer (verified.Judged checked) = answer (checked_status checked) (checked_text checked)

-- the history's text, or why there is none
abbrev pub history_answer : Answered → Answer
history_answer (answered.Refused refusal) = refusal_answer refusal
history_answer (answered.History text) = answer 0 text

-- the report of an explained log is a placement's text, which can be read
pub record IsPlacementText (text : List ℕ) : Type 0 where
  pub lines : List PlacedLine
  pub placement : IsPlacement lines
  pub spelled : text ≡ explained_text lines
