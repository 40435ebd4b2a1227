-- What a command comes to before it is written: its report, and what was taken of the names.
use Rattle.std.specs.Prelude.{◌≡◌, ◌⊎◌, ℕ, List, Option, Some, Result, IfOk, IsErrOf}
use Rattle.std.specs.Io.KnownBytes.{IsAtEnd}
use Rattle.context_intake.specs.Contexts.{IsRefused}
use Rattle.context_intake.specs.Taking.{TakesSetupAndLog}
use Rattle.context_intake.specs.declared.refusal.Refusal.{Refusal}
use Rattle.context_intake.specs.declared.stop.Stop.{Stop}
use Rattle.context_intake.specs.declared.stop.Stop.TheVariants.{ReadFault}
use Rattle.edge_io.specs.Faults.{Rose}
use Rattle.edge_io.specs.Whole.{TakesWhole}
use Rattle.command_words.specs.Command.{Ask, Asked, Judge, Make, Reads, Spells, Strict, Tells, Verify}
use Rattle.kubepast.specs.Program.{IsAnswerTo, IsStatusOf}
use Rattle.log_verdict.specs.Answers.{IsPlacementText, report_answer, status_number}
use Rattle.log_verdict.specs.Endings.{IsBrokenStatus, IsVerdictStatus}
use Rattle.log_verdict.specs.Verifying.{IsReadLast, most_placement}
use Rattle.log_verdict.specs.declared.report.Report.{Report}

-- some words ask for the command
abbrev pub IsSpelled : Asked → Type 0
IsSpelled asked = (words : List (List ℕ)) × Spells asked words

-- the report tells that a log is explained or not, that a placement holds or not, or what a history says
abbrev pub HasVerdictStatus : Report → Type 0
HasVerdictStatus report = IsVerdictStatus (status_number report.status)

-- the report tells that a rule is broken
abbrev pub HasBrokenStatus : Report → Type 0
HasBrokenStatus report = IsBrokenStatus (status_number report.status)

-- what was taken of a setup and a log: all of the setup before a rule is said to be broken
pub record TakesNames (setup log : List ℕ) (old now : List ℕ → Option (List ℕ)) (found : Result Report Stop) : Type 0 where
  pub whole : IfOk found (λ report. HasVerdictStatus report → IsAtEnd (now setup) × IsAtEnd (now log))
  pub setup_whole : IfOk found (λ report. HasBrokenStatus report → IsAtEnd (now setup))
  pub taken : TakesSetupAndLog setup log old now (IsErrOf found ReadFault)

-- what was taken of a placement: nothing where the setup or the log is refused, or isn't read to its end; all before a
-- line of it is said to be wrong
pub record TakesPlacement (setup log placement : List ℕ) (old now : List ℕ → Option (List ℕ)) (found : Result Report Stop) : Type 0 where
  pub whole : IfOk found (λ report. HasVerdictStatus report → IsAtEnd (now placement))
  pub misspelt : IfOk found (λ report. status_number report.status ≡ 4 → (now placement ≡ old placement) ⊎ IsAtEnd (now placement))
  pub taken : TakesWhole most_placement (old placement) (now placement) (IsErrOf found ReadFault)
  pub left : (of_setup of_log : List ℕ) (refusal : Refusal) → old setup ≡ Some of_setup → old log ≡ Some of_log → IsRefused of_setup of_log refusal → now placement ≡ old placement
  pub after : IsReadLast (now setup) (now log) (old placement) (now placement)

-- a command that reads nothing leaves the desk untouched
abbrev pub Takes : Asked → (old now : List ℕ → Option (List ℕ)) → (untouched : Type 0) → Result Report Stop → Type 0
Takes (Judge setup log) old now untouched found = TakesNames setup log old now found
Takes (Strict setup log) old now untouched found = TakesNames setup log old now found
Takes (Verify setup log placement) old now untouched found = TakesNames setup log old now found × TakesPlacement setup log placement old now found
Takes (Ask setup log question) old now untouched found = TakesNames setup log old now found
Takes (Make number events) old now untouched found = untouched

abbrev pub PrintsPlacement : Asked → Report → Type 0
PrintsPlacement (Judge setup log) report = status_number report.status ≡ 0 → IsPlacementText report.text
PrintsPlacement (Strict setup log) report = Unit {0}
PrintsPlacement (Verify setup log placement) report = Unit {0}
PrintsPlacement (Ask setup log question) report = Unit {0}
PrintsPlacement (Make number events) report = Unit {0}

-- the report is that of the command; the faults are those of the desk
pub record IsReported (asked : Asked) (old now : List ℕ → Option (List ℕ)) (untouched : Type 0) (faults_before faults_now : ℕ) (found : Result Report Stop) : Type 0 where
  pub answered : IfOk found (λ report. (files : List ℕ → List ℕ) → Tells asked old files → IsAnswerTo (Some asked) files (report_answer report))
  pub status : IfOk found (λ report. IsStatusOf asked (status_number report.status))
  pub fault : IsErrOf found ReadFault → Rose faults_before faults_now
  pub taken : Takes asked old now untouched found
  pub others : (name : List ℕ) → (Reads asked name → ⊥) → now name ≡ old name
  pub printed : IfOk found (PrintsPlacement asked)
