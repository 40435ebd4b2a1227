-- What a setup and a log tell, of their bytes alone.
use Rattle.std.specs.Prelude.{◌≡◌, ⊤, ◌<◌, ◌≤◌, ◌++◌, ℕ, List, Result, Ok, Err, length}
use Rattle.audit_event.specs.declared.event.Event.{Event}
use Rattle.log_intake.specs.Log.{IsLogRead}
use Rattle.log_intake.specs.Setup.{IsSetupRead}
use Rattle.page_chains.specs.Chains.{chains_of}
use Rattle.setup_file.specs.declared.setup.Setup.{Setup}
use Rattle.log_context.specs.Known.{Known}
use Rattle.log_context.specs.LogTrees.{pooled}
use Rattle.log_context.specs.Told.{IsTold}
use Rattle.context_intake.specs.Refusals.{IsLogRefused, IsSetupRefused}
use Rattle.context_intake.specs.declared.refusal.Limit.TheVariants.{PoolSize}
use Rattle.context_intake.specs.declared.refusal.Refusal.{Refusal}
use Rattle.context_intake.specs.declared.refusal.Refusal.TheVariants.{PastLimit}
use Rattle.context_intake.specs.declared.stop.Stop.{Stop}
use Rattle.context_intake.specs.declared.stop.Stop.TheVariants.{OutOfMemory, ReadFault}
use Rattle.context_intake.specs.declared.told.Intake.{Intake}
use Rattle.context_intake.specs.declared.told.Intake.TheVariants.{Context, Refused}

-- the lists that clients read in pages are checkpoints behind those of the setup
abbrev pub with_chains : Setup → List Event → Setup
with_chains setup events = record setup { checkpoints = setup.checkpoints ++ chains_of setup events }

-- the objects of a setup and a log have at most so many distinct values
abbrev pub most_nodes : ℕ
most_nodes = 50000000

-- the setup is judged first, then the log, and then the number of distinct values
pub data IsRefused (setup log : List ℕ) (refusal : Refusal) : Type 0 where
  of_setup : IsSetupRefused setup refusal → IsRefused setup log refusal
  of_log : (read : Setup) → IsSetupRead setup (Ok read) → IsLogRefused log refusal → IsRefused setup log refusal
  of_pool : (read : Setup) → (events : List Event) → IsSetupRead setup (Ok read) → IsLogRead log (Ok events)
      → most_nodes < length (pooled (with_chains read events) events) → refusal ≡ PastLimit PoolSize → IsRefused setup log refusal

-- nothing is refused, and this is what they tell
pub record IsContextOf (setup log : List ℕ) (known : Known) : Type 0 where
  pub read : Setup
  pub setup_is : IsSetupRead setup (Ok read)
  pub log_is : IsLogRead log (Ok known.events)
  pub chained : known.setup ≡ with_chains read known.events
  pub few : length (pooled known.setup known.events) ≤ most_nodes
  pub told : IsTold known

abbrev pub IsToldBy : (setup log : List ℕ) → Intake → Type 0
IsToldBy setup log (Refused refusal) = IsRefused setup log refusal
IsToldBy setup log (Context known) = IsContextOf setup log known

-- what a setup with its chains and the events of a log tell, unless the objects have too many distinct values
abbrev pub IsFoundIn : Setup → List Event → Intake → Type 0
IsFoundIn setup events (Refused refusal) = (most_nodes < length (pooled setup events)) × (refusal ≡ PastLimit PoolSize)
IsFoundIn setup events (Context known) = (known.setup ≡ setup) × (known.events ≡ events) × (length (pooled setup events) ≤ most_nodes) × IsTold known

-- both were read to their ends, or up to a failed read
abbrev pub RefusesNothing : Result Intake Stop → Type 0
RefusesNothing (Ok (Refused refusal)) = ⊥
RefusesNothing (Ok (Context known)) = ⊤
RefusesNothing (Err ReadFault) = ⊤
RefusesNothing (Err OutOfMemory) = ⊥

-- nothing was refused
abbrev pub IsOfContext : Intake → Type 0
IsOfContext (Refused refusal) = ⊥
IsOfContext (Context known) = ⊤
