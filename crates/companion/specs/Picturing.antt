-- What a setup and a log come to as a page, of their bytes alone.
use Rattle.std.specs.Prelude.{◌≡◌, ◌⊎◌, ℕ, List}
use Rattle.base_types.specs.declared.verdict.claim.Reason.{Reason}
use Rattle.base_types.specs.declared.verdict.placed.Outcome.{Outcome}
use Rattle.base_types.specs.declared.verdict.placed.Outcome.TheVariants.{Explained, Unexplained}
use Rattle.base_types.specs.declared.verdict.placed.WriteLine.{WriteLine}
use Rattle.context_intake.specs.Contexts.{IsContextOf, IsRefused}
use Rattle.context_intake.specs.declared.refusal.Refusal.{Refusal}
use Rattle.context_intake.specs.declared.told.Intake.{Intake}
use Rattle.context_intake.specs.declared.told.Intake.TheVariants as told
use Rattle.finding_picture.specs.Page as finding_page
use Rattle.finding_picture.specs.declared.finding.Finding.{Finding}
use Rattle.log_picture.specs.Page.{IsLogPage}
use Rattle.log_verdict.specs.Answers.{Answer, answer, outcome_status, refusal_answer}
use Rattle.log_verdict.specs.Endings.{IsBrokenStatus, IsVerdictStatus}
use Rattle.log_verdict.specs.Judging.{IsOutcomeOf}
use Rattle.log_context.specs.Known.{Known}

-- the finding tells what an outcome tells of the event that breaks
pub record TellsFinding (finding : Finding) (line : ℕ) (audit_id : List ℕ) (reason : Reason) (low high : ℕ) (writes : List WriteLine) : Type 0 where
  pub same_line : finding.line ≡ line
  pub same_audit_id : finding.audit_id.now ≡ audit_id
  pub same_reason : finding.reason ≡ reason
  pub same_low : finding.low ≡ low
  pub same_high : finding.high ≡ high
  pub same_writes : finding.writes.now ≡ writes

-- the page of a log as a whole, or of the event that breaks
abbrev pub IsPage : Known → Outcome → List ℕ → Type 0
IsPage known (Explained lines) page = IsLogPage known lines page
IsPage known (Unexplained line audit_id reason low high writes) page =
    (finding : Finding) × TellsFinding finding line audit_id reason low high writes × (page ≡ finding_page.page_text known finding)

-- the page of the outcome, with the outcome's status
pub record IsPicturedOf (known : Known) (answered : Answer) : Type 0 where
  pub outcome : Outcome
  pub is : IsOutcomeOf known outcome
  pub page : List ℕ
  pub shown : IsPage known outcome page
  pub answers : answered ≡ answer (outcome_status outcome) page

-- what they come to, of what they tell: a refusal is said as the judge says it
abbrev pub IsPicturedFrom : Intake → Answer → Type 0
IsPicturedFrom (told.Refused refusal) answered = answered ≡ refusal_answer refusal
IsPicturedFrom (told.Context known) answered = IsPicturedOf known answered

-- what a log comes to, by a setup
abbrev pub IsPictured : List ℕ → List ℕ → Answer → Type 0
IsPictured setup log answered =
    ((refusal : Refusal) × IsRefused setup log refusal × (answered ≡ refusal_answer refusal))
    ⊎ ((known : Known) × IsContextOf setup log known × IsPicturedOf known answered)

-- a page is answered, and no refusal
abbrev pub HasPage : Answer → Type 0
HasPage answered = IsVerdictStatus answered.status

-- a rule of the setup or of the log is broken
abbrev pub HasBrokenRule : Answer → Type 0
HasBrokenRule answered = IsBrokenStatus answered.status
