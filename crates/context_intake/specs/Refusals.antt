-- Why a setup or a log is refused, and what the program says then.
use Rattle.std.specs.Prelude.{◌≡◌, ℕ, List, Err, codes}
use Rattle.log_intake.specs.Log.{IsLogRead}
use Rattle.log_intake.specs.Setup.{IsSetupRead}
use Rattle.log_intake.specs.declared.stop.LogStop.{LogStop}
use Rattle.log_intake.specs.declared.stop.LogStop.TheVariants as log_stop
use Rattle.log_intake.specs.declared.stop.SetupStop.{SetupStop}
use Rattle.log_intake.specs.declared.stop.SetupStop.TheVariants as setup_stop
use Rattle.context_intake.specs.declared.refusal.Limit.{Limit}
use Rattle.context_intake.specs.declared.refusal.Limit.TheVariants.{SetupSize, LineSize, EventCount, InputSize, PoolSize}
use Rattle.context_intake.specs.declared.refusal.Refusal.{Refusal}
use Rattle.context_intake.specs.declared.refusal.Refusal.TheVariants.{BrokenSetup, MalformedLog, PastLimit}

abbrev pub limit_word : Limit → List ℕ
limit_word SetupSize = codes "setup"
limit_word LineSize = codes "line"
limit_word EventCount = codes "events"
limit_word InputSize = codes "input"
limit_word PoolSize = codes "pool"

-- what stops the reading of a setup is a refusal, or no matter of its bytes
abbrev pub IsSetupStopOf : SetupStop → Refusal → Type 0
IsSetupStopOf (setup_stop.Rule rule) refusal = refusal ≡ BrokenSetup rule
IsSetupStopOf setup_stop.TooLong refusal = refusal ≡ PastLimit SetupSize
IsSetupStopOf setup_stop.ReadFault refusal = ⊥
IsSetupStopOf setup_stop.OutOfMemory refusal = ⊥

-- the setup is too long, or breaks a rule, this one first
abbrev pub IsSetupRefused : List ℕ → Refusal → Type 0
IsSetupRefused bytes refusal = (stop : SetupStop) × IsSetupRead bytes (Err stop) × IsSetupStopOf stop refusal

-- what stops the reading of a log is a refusal, or no matter of its bytes
abbrev pub IsStopOf : LogStop → Refusal → Type 0
IsStopOf (log_stop.Malformed line code) refusal = refusal ≡ MalformedLog line code
IsStopOf log_stop.LineTooLong refusal = refusal ≡ PastLimit LineSize
IsStopOf log_stop.TooManyEvents refusal = refusal ≡ PastLimit EventCount
IsStopOf log_stop.TooLong refusal = refusal ≡ PastLimit InputSize
IsStopOf log_stop.ReadFault refusal = ⊥
IsStopOf log_stop.OutOfMemory refusal = ⊥

-- the first number of the log that is refused, and why
abbrev pub IsLogRefused : List ℕ → Refusal → Type 0
IsLogRefused bytes refusal = (stop : LogStop) × IsLogRead bytes (Err stop) × IsStopOf stop refusal
