-- What a call that reads a setup and then a log does to a desk, whatever it answers.
use Rattle.std.specs.Prelude.{◌≡◌, ◌≢◌, ⊤, ◌≤◌, ℕ, List, Option, Some}
use Rattle.std.specs.Io.KnownBytes.{IsAtEnd}
use Rattle.edge_io.specs.Faults.{Rose}
use Rattle.log_intake.specs.Setup.{TakesSetup}
use Rattle.log_intake.specs.Taking.{TakesLog}
use Rattle.context_intake.specs.Refusals.{IsSetupRefused}
use Rattle.context_intake.specs.declared.refusal.Limit.TheVariants.{SetupSize, LineSize, EventCount, InputSize, PoolSize}
use Rattle.context_intake.specs.declared.refusal.Refusal.{Refusal}
use Rattle.context_intake.specs.declared.refusal.Refusal.TheVariants.{BrokenSetup, MalformedLog, PastLimit}
use Rattle.context_intake.specs.declared.told.Intake.{Intake}
use Rattle.context_intake.specs.declared.told.Intake.TheVariants.{Context, Refused}

-- What was taken of the two at most, and less where nothing is refused (`fine`); of the log nothing where the setup is
-- refused.
pub record TakesSetupAndLog (setup log : List ℕ) (old now : List ℕ → Option (List ℕ)) (fine : Type 0) : Type 0 where
  pub setup_taken : TakesSetup (old setup) (now setup) fine
  pub log_taken : TakesLog (old log) (now log) fine
  pub log_left : (of_setup : List ℕ) (refusal : Refusal) → old setup ≡ Some of_setup → IsSetupRefused of_setup refusal → now log ≡ old log

-- a read fault is answered only where the desk's count of faults rose, which never falls; no other name was touched
pub record ReadsSetupAndLog (setup log : List ℕ) (old now : List ℕ → Option (List ℕ)) (faults_before faults_now : ℕ) (fine read_fault : Type 0) : Type 0 where
  pub fault : read_fault → Rose faults_before faults_now
  pub counted : faults_before ≤ faults_now
  pub taken : TakesSetupAndLog setup log old now fine
  pub others : (other : List ℕ) → other ≢ setup → other ≢ log → now other ≡ old other

-- What was read to its end before this is refused: the setup, unless it is too long, and where there are too many
-- distinct values the log too.
abbrev pub IsReadBefore : Refusal → (setup log : Option (List ℕ)) → Type 0
IsReadBefore (BrokenSetup rule) setup log = IsAtEnd setup
IsReadBefore (MalformedLog line code) setup log = IsAtEnd setup
IsReadBefore (PastLimit SetupSize) setup log = ⊤
IsReadBefore (PastLimit LineSize) setup log = IsAtEnd setup
IsReadBefore (PastLimit EventCount) setup log = IsAtEnd setup
IsReadBefore (PastLimit InputSize) setup log = IsAtEnd setup
IsReadBefore (PastLimit PoolSize) setup log = IsAtEnd setup × IsAtEnd log

-- what was read to its end before this is told: both, where nothing is refused
abbrev pub IsReadFor : Intake → (setup log : Option (List ℕ)) → Type 0
IsReadFor (Refused refusal) setup log = IsReadBefore refusal setup log
IsReadFor (Context known) setup log = IsAtEnd setup × IsAtEnd log
