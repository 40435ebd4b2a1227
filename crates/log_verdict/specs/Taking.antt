-- What a call that reads a setup, a log and then a placement does to a desk, whatever it answers; and what of them was
-- read to its end before a verdict, an answer or a refusal.
use Rattle.std.specs.Prelude.{◌≡◌, ◌≢◌, ⊤, ◌≤◌, ℕ, List, Option, Some}
use Rattle.std.specs.Io.KnownBytes.{IsAtEnd}
use Rattle.context_intake.specs.Contexts.{IsRefused}
use Rattle.context_intake.specs.Taking.{IsReadBefore, TakesSetupAndLog}
use Rattle.context_intake.specs.declared.refusal.Refusal.{Refusal}
use Rattle.edge_io.specs.Faults.{Rose}
use Rattle.edge_io.specs.Whole.{TakesWhole}
use Rattle.log_verdict.specs.Verifying.{IsReadLast, most_placement}
use Rattle.log_verdict.specs.declared.asking.Answered.{Answered}
use Rattle.log_verdict.specs.declared.asking.Answered.TheVariants as answered
use Rattle.log_verdict.specs.declared.judged.JudgedLog.{JudgedLog}
use Rattle.log_verdict.specs.declared.judged.JudgedLog.TheVariants as judged
use Rattle.log_verdict.specs.declared.strictly.StrictlyJudged.{StrictlyJudged}
use Rattle.log_verdict.specs.declared.strictly.StrictlyJudged.TheVariants.{Plain, Settled}
use Rattle.log_verdict.specs.declared.verified.Verified.{Verified}
use Rattle.log_verdict.specs.declared.verified.Verified.TheVariants as verified

-- As where a setup and a log alone are read. Of the placement its limit and a piece at most, nothing where setup or log
-- is refused, and nothing before both are read to their ends.
pub record ReadsSetupLogAndPlacement (setup log placement : List ℕ) (old now : List ℕ → Option (List ℕ)) (faults_before faults_now : ℕ) (read_fault : Type 0) : Type 0 where
  pub fault : read_fault → Rose faults_before faults_now
  pub counted : faults_before ≤ faults_now
  pub taken : TakesSetupAndLog setup log old now read_fault
  pub placement_taken : TakesWhole most_placement (old placement) (now placement) read_fault
  pub placement_left : (of_setup of_log : List ℕ) (refusal : Refusal) → old setup ≡ Some of_setup → old log ≡ Some of_log → IsRefused of_setup of_log refusal → now placement ≡ old placement
  pub placement_after : IsReadLast (now setup) (now log) (old placement) (now placement)
  pub others : (other : List ℕ) → other ≢ setup → other ≢ log → other ≢ placement → now other ≡ old other

-- both are read to their ends before a verdict
abbrev pub IsReadToJudge : JudgedLog → (setup log : Option (List ℕ)) → Type 0
IsReadToJudge (judged.Refused refusal) setup log = IsReadBefore refusal setup log
IsReadToJudge (judged.Verdict outcome) setup log = IsAtEnd setup × IsAtEnd log

abbrev pub IsReadToSettle : StrictlyJudged → (setup log : Option (List ℕ)) → Type 0
IsReadToSettle (Plain found) setup log = IsReadToJudge found setup log
IsReadToSettle (Settled outcome answer) setup log = IsAtEnd setup × IsAtEnd log

-- both are read to their ends before a question is answered
abbrev pub IsReadToAnswer : Answered → (setup log : Option (List ℕ)) → Type 0
IsReadToAnswer (answered.Refused refusal) setup log = IsReadBefore refusal setup log
IsReadToAnswer (answered.History text) setup log = IsAtEnd setup × IsAtEnd log

-- so is a placement before it is judged, and before a line of it is said to be wrong; where setup or log is refused it
-- is as it was
abbrev pub IsReadToVerify : Verified → (setup log old now : Option (List ℕ)) → Type 0
IsReadToVerify (verified.Refused refusal) setup log old now = IsReadBefore refusal setup log × (now ≡ old)
IsReadToVerify verified.TooLong setup log old now = IsAtEnd setup × IsAtEnd log
IsReadToVerify (verified.Misspelt line) setup log old now = IsAtEnd setup × IsAtEnd log × IsAtEnd now
IsReadToVerify (verified.Judged checked) setup log old now = IsAtEnd setup × IsAtEnd log × IsAtEnd now

-- a placement was taken, and read to its end unless it is too long
abbrev pub IsTextRead : Verified → Option (List ℕ) → Type 0
IsTextRead (verified.Refused refusal) placement = ⊥
IsTextRead verified.TooLong placement = ⊤
IsTextRead (verified.Misspelt line) placement = IsAtEnd placement
IsTextRead (verified.Judged checked) placement = IsAtEnd placement
