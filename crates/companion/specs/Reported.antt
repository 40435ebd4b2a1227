-- What a command comes to before it is written: its report, and what was done to the desk.
use Rattle.std.specs.Prelude.{◌≡◌, ⊤, ℕ, List, ◌∷◌, Option, Some, Result, Ok, Err, IfOk, IsErrOf, codes}
use Rattle.std.specs.Io.KnownBytes.{IsAtEnd, Keeps}
use Rattle.context_intake.specs.Taking.{TakesSetupAndLog}
use Rattle.context_intake.specs.declared.stop.Stop.{Stop}
use Rattle.context_intake.specs.declared.stop.Stop.TheVariants.{OutOfMemory, ReadFault}
use Rattle.edge_io.specs.Endings.{Ends}
use Rattle.edge_io.specs.Faults.{Rose}
use Rattle.edge_io.specs.Whole.{TakesWhole}
use Rattle.edge_io.specs.declared.whole.WholeStop.{WholeStop}
use Rattle.edge_io.specs.declared.whole.WholeStop.TheVariants as whole
use Rattle.cluster_setup.specs.Gathering.{TakesFiles}
use Rattle.cluster_setup.specs.declared.answering.MadeText.{MadeText}
use Rattle.cluster_setup.specs.declared.answering.MadeText.TheVariants as made
use Rattle.log_sift.specs.Named as sift
use Rattle.log_verdict.specs.Answers.{Answer, answer}
use Rattle.verdict_text.specs.Words.{ended}
use Rattle.companion_words.specs.Command.{Asked, Explain, Picture, Reads, Setup, Sift, Tells}
use Rattle.companion.specs.Picturing.{HasBrokenRule, HasPage}
use Rattle.companion.specs.Program.{IsAnswerTo, IsStatusOf}
use Rattle.companion.specs.Running.{ReadsAll}
use Rattle.companion.specs.declared.report.ReportText.{ReportText}
use Rattle.companion.specs.declared.report.ReportText.TheVariants.{Fixed, Made, Sifted}
use Rattle.companion.specs.declared.report.CommandReport.{CommandReport}
use Rattle.companion.specs.declared.report.ExitStatus.{ExitStatus}
use Rattle.companion.specs.declared.report.ExitStatus.TheVariants.{Done, Unexplained, SetupRefused, LogRefused, LimitPassed}

abbrev pub status_number : ExitStatus → ℕ
status_number Done = 0
status_number Unexplained = 1
status_number SetupRefused = 3
status_number LogRefused = 4
status_number LimitPassed = 7

abbrev pub body_text : ReportText → List ℕ
body_text (Fixed text) = text.now
body_text (Made text) = text
body_text (Sifted text) = sift.shown_text text

-- the stretches of a log lie in it
abbrev pub HasStretchesWithin : ReportText → Type 0
HasStretchesWithin (Fixed text) = ⊤
HasStretchesWithin (Made text) = ⊤
HasStretchesWithin (Sifted text) = sift.AreStretchesWithin text

abbrev pub report_answer : CommandReport → Answer
report_answer report = answer (status_number report.status) (body_text report.body)

-- the line of a setup, or why there is none, with its status
abbrev pub made_answer : MadeText → Answer
made_answer (made.Setup line) = answer 0 line
made_answer (made.Refused line) = answer 3 line

-- a report of this limit
abbrev pub IsLimitReport : List ℕ → Result CommandReport Stop → Type 0
IsLimitReport limit (Ok report) = (report_answer report ≡ answer 7 limit) × HasStretchesWithin report.body
IsLimitReport limit (Err stop) = ⊥

-- why a name wasn't read to its end, as a report with the text of the limit, or as why there is none
abbrev pub TellsStop : WholeStop → List ℕ → Result CommandReport Stop → Type 0
TellsStop whole.TooLong limit found = IsLimitReport limit found
TellsStop whole.ReadFault limit found = found ≡ Err ReadFault
TellsStop whole.OutOfMemory limit found = found ≡ Err OutOfMemory

-- what was taken of a setup and a log: both before a page, and all of the setup before a rule is said to be broken
pub record TakesNames (setup log : List ℕ) (old now : List ℕ → Option (List ℕ)) (found : Result CommandReport Stop) : Type 0 where
  pub whole : IfOk found (λ report. HasPage (report_answer report) → IsAtEnd (now setup) × IsAtEnd (now log))
  pub setup_whole : IfOk found (λ report. HasBrokenRule (report_answer report) → IsAtEnd (now setup))
  pub taken : TakesSetupAndLog setup log old now (IsErrOf found ReadFault)

-- what was taken of the names of a command at most, and less where a read failed; of a setup's policy and files, one
-- behind another, nothing behind one that wasn't read whole
abbrev pub Takes : Asked → (old now : List ℕ → Option (List ℕ)) → Result CommandReport Stop → Type 0
Takes (Explain text) old now found = ⊤
Takes (Sift left log) old now found = TakesWhole sift.most_log (old log) (now log) (IsErrOf found ReadFault)
Takes (Setup authorize time policy files) old now found = TakesFiles (policy ∷ files) old now (IsErrOf found ReadFault)
Takes (Picture setup log) old now found = TakesNames setup log old now found

-- the report is that of the command; the faults are those of the desk
pub record IsReported (asked : Asked) (old now : List ℕ → Option (List ℕ)) (untouched : Type 0) (faults_before faults_now : ℕ) (found : Result CommandReport Stop) : Type 0 where
  pub answered : IfOk found (λ report. (files : List ℕ → List ℕ) → Tells asked old files → IsAnswerTo (Some asked) files (report_answer report))
  pub status : IfOk found (λ report. IsStatusOf asked (status_number report.status))
  pub within : IfOk found (λ report. HasStretchesWithin report.body)
  pub fault : IsErrOf found ReadFault → Rose faults_before faults_now
  pub taken : Takes asked old now found
  pub ends : IfOk found (λ report. ReadsAll asked (status_number report.status) → (name : List ℕ) → Reads asked name → IsAtEnd (now name))
  pub left : ((name : List ℕ) → Reads asked name → ⊥) → untouched
  pub others : (name : List ℕ) → (Reads asked name → ⊥) → now name ≡ old name

-- the report was written with its status, or why there is none; for want of memory nothing is written
abbrev pub Concludes : Result CommandReport Stop → ℕ → ℕ → Option (List ℕ) → Option (List ℕ) → ℕ → Type 0
Concludes (Ok report) faults_before faults_now before now result =
    Ends (status_number report.status) (body_text report.body) faults_before faults_now before now result
Concludes (Err ReadFault) faults_before faults_now before now result = Ends 5 (ended (codes "read fault")) faults_before faults_now before now result
Concludes (Err OutOfMemory) faults_before faults_now before now result = (result ≡ 8) × Keeps before now
