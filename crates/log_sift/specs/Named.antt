-- What a log comes to line by line, of its bytes alone.
use Rattle.std.specs.Prelude.{◌≡◌, ◌≢◌, ⊤, ◌<◌, ◌≤◌, ℕ, Bool, true, false, List, All, Option, Some, Result, Ok, Err, IfOk, OnOk, IsErrOf, length}
use Rattle.std.specs.Io.KnownBytes.{IsAtEnd}
use Rattle.edge_io.specs.Faults.{Rose}
use Rattle.edge_io.specs.Whole.{TakesWhole}
use Rattle.edge_io.specs.declared.whole.WholeStop.{WholeStop}
use Rattle.edge_io.specs.declared.whole.WholeStop.TheVariants.{TooLong, ReadFault, OutOfMemory}
use Rattle.log_sift.specs.Sifted.{IsSifting, LiesInLog, stretches_text}
use Rattle.log_sift.specs.Telling.{left_text}
use Rattle.log_sift.specs.declared.answer.Fate.{Fate}
use Rattle.log_sift.specs.declared.answer.Sifting.{Sifting}
use Rattle.log_sift.specs.declared.named.SiftText.{SiftText}
use Rattle.log_sift.specs.declared.named.SiftText.TheVariants.{LeftOut, KeptLines}

-- a log has at most so many bytes
abbrev pub most_log : ℕ
most_log = 1099511627776

-- the lines that stay, or what is said of the others
abbrev pub sifted_text : Bool → List ℕ → Sifting → List ℕ
sifted_text true log sifting = left_text sifting
sifted_text false log sifting = stretches_text log sifting.stays

abbrev pub shown_text : SiftText → List ℕ
shown_text (LeftOut text) = text
shown_text (KeptLines log stays) = stretches_text log stays

-- the stretches lie in the log
abbrev pub AreStretchesWithin : SiftText → Type 0
AreStretchesWithin (LeftOut text) = ⊤
AreStretchesWithin (KeptLines log stays) = All (LiesInLog log) stays

-- what the lines of a log come to
abbrev pub IsSiftText : Bool → List ℕ → List ℕ → Type 0
IsSiftText left log text = (fates : List Fate) × (sifting : Sifting) × IsSifting log fates sifting × (text ≡ sifted_text left log sifting)

-- the same, or the log is too long
abbrev pub AnswersSift : Bool → List ℕ → Result SiftText WholeStop → Type 0
AnswersSift left log (Ok found) = (length log ≤ most_log) × IsSiftText left log (shown_text found)
AnswersSift left log (Err TooLong) = most_log < length log
AnswersSift left log (Err ReadFault) = ⊤
AnswersSift left log (Err OutOfMemory) = ⊤

-- what is answered to the name of a log, and what is taken of it; the faults are those of the desk
pub record SiftsLog (left : Bool) (name : List ℕ) (old now : List ℕ → Option (List ℕ)) (faults_before faults_now : ℕ) (answer : Result SiftText WholeStop) : Type 0 where
  pub answered : (bytes : List ℕ) → old name ≡ Some bytes → AnswersSift left bytes answer
  pub within : IfOk answer AreStretchesWithin
  pub whole : OnOk answer (IsAtEnd (now name))
  pub fault : IsErrOf answer ReadFault → Rose faults_before faults_now
  pub counted : faults_before ≤ faults_now
  pub taken : TakesWhole most_log (old name) (now name) (IsErrOf answer ReadFault)
  pub others : (other : List ℕ) → other ≢ name → now other ≡ old other
