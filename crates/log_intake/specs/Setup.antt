-- What the bytes of a setup read as, and what is taken of them.
use Rattle.std.specs.Prelude.{◌≡◌, ⊤, ℕ, ◌<◌, ◌≤◌, List, length, Option, Some, Result, Ok, Err, IfOk, IsErrOf}
use Rattle.std.specs.Io.KnownBytes.{IsAtEnd}
use Rattle.edge_io.specs.Faults.{Rose}
use Rattle.edge_io.specs.Whole.{TakesWhole}
use Rattle.edge_io.specs.declared.whole.WholeStop.{WholeStop}
use Rattle.edge_io.specs.declared.whole.WholeStop.TheVariants as whole
use Rattle.hash_seed.specs.declared.seed.Seed.{Seed}
use Rattle.setup_file.specs.declared.setup.Setup.{Setup}
use Rattle.setup_file.specs.Reading.{ReadsAs}
use Rattle.setup_file.specs.Sound.{IsSound}
use Rattle.sha2.specs.Sha256.{sha256}
use Rattle.log_intake.specs.declared.stop.SetupStop.{SetupStop}
use Rattle.log_intake.specs.declared.stop.SetupStop.TheVariants.{Rule, TooLong, ReadFault, OutOfMemory}

-- a setup has at most so many bytes
abbrev pub most_setup : ℕ
most_setup = 268435456

-- a setup has at most so many checkpoints
abbrev pub most_checkpoints : ℕ
most_checkpoints = 10000

-- what a setup reads as: the setup or the first broken rule of the bytes, or there are too many of them
abbrev pub IsSetupRead : List ℕ → Result Setup SetupStop → Type 0
IsSetupRead bytes (Ok setup) = (length bytes ≤ most_setup) × ReadsAs bytes (Ok setup)
IsSetupRead bytes (Err (Rule rule)) = (length bytes ≤ most_setup) × ReadsAs bytes (Err rule)
IsSetupRead bytes (Err TooLong) = most_setup < length bytes
IsSetupRead bytes (Err ReadFault) = ⊥
IsSetupRead bytes (Err OutOfMemory) = ⊥

-- setups and refusals are those of the bytes
abbrev pub AnswersSetup : List ℕ → Result Setup SetupStop → Type 0
AnswersSetup bytes (Ok setup) = IsSetupRead bytes (Ok setup)
AnswersSetup bytes (Err (Rule rule)) = IsSetupRead bytes (Err (Rule rule))
AnswersSetup bytes (Err TooLong) = IsSetupRead bytes (Err TooLong)
AnswersSetup bytes (Err ReadFault) = ⊤
AnswersSetup bytes (Err OutOfMemory) = ⊤

-- a setup that isn't too long so far, and at most a piece behind it; no piece where nothing more was to be taken
abbrev pub TakesSetup : Option (List ℕ) → Option (List ℕ) → Type 0 → Type 0
TakesSetup = TakesWhole most_setup

-- why a setup that wasn't read whole is none
abbrev pub stop_of : WholeStop → SetupStop
stop_of whole.TooLong = TooLong
stop_of whole.ReadFault = ReadFault
stop_of whole.OutOfMemory = OutOfMemory

-- the setup and the first broken rule are told at the end alone
abbrev pub IsWhole : Result Setup SetupStop → Type 0
IsWhole (Ok setup) = ⊤
IsWhole (Err (Rule rule)) = ⊤
IsWhole (Err TooLong) = ⊥
IsWhole (Err ReadFault) = ⊥
IsWhole (Err OutOfMemory) = ⊥

-- a setup that was read to its end, or up to a failed read
abbrev pub StaysWithin : Result Setup SetupStop → Type 0
StaysWithin (Ok setup) = ⊤
StaysWithin (Err (Rule rule)) = ⊤
StaysWithin (Err TooLong) = ⊥
StaysWithin (Err ReadFault) = ⊤
StaysWithin (Err OutOfMemory) = ⊥

-- what is answered to a setup, and what is taken of it; the faults are those of the desk
pub record ReadsSetup (old now : Option (List ℕ)) (faults_before faults_now : ℕ) (answer : Result Setup SetupStop) : Type 0 where
  pub answers : (bytes : List ℕ) → old ≡ Some bytes → AnswersSetup bytes answer
  pub sound : IfOk answer IsSound
  pub few : IfOk answer (λ setup. length setup.checkpoints ≤ most_checkpoints)
  pub whole : IsWhole answer → IsAtEnd now
  pub fault : IsErrOf answer ReadFault → Rose faults_before faults_now
  pub counted : faults_before ≤ faults_now
  pub taken : TakesSetup old now (StaysWithin answer)

-- the seed is that of the bytes, where they are told
abbrev pub IsSeedOf : Option (List ℕ) → Seed → Type 0
IsSeedOf told seed = (bytes : List ℕ) → told ≡ Some bytes → seed.digest ≡ sha256 bytes
