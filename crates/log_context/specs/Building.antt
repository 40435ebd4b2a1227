-- What calls that put a log together ask of a setup and its events, and what they answer.
use Rattle.std.specs.Prelude.{◌≡◌, ◌+◌, ◌<◌, ◌≤◌, ◌^◌, ℕ, List, All, length}
use Rattle.audit_event.specs.Events.{IsSound as IsSoundEvent}
use Rattle.audit_event.specs.declared.event.Event.{Event}
use Rattle.base_types.specs.Meaning.{Meaning}
use Rattle.setup_file.specs.Sound.{IsSound}
use Rattle.setup_file.specs.declared.setup.Setup.{Setup}
use Rattle.log_context.specs.Known.{Known}
use Rattle.log_context.specs.Log.{AreLines, IsLogOf, RiseByLine}
use Rattle.log_context.specs.LogTrees.{pooled}
use Rattle.log_context.specs.Told.{IsTold}
use Rattle.log_context.specs.declared.log.Log.{Log}

-- they can be put into the terms of the model of history
pub record IsLoggable (of : Setup) (recorded : List Event) : Type 0 where
  pub setup : IsSound of
  pub events : All IsSoundEvent recorded
  pub few : length recorded + length of.checkpoints < 2 ^ 32

-- a context can be built of them
pub record IsBuildable (of : Setup) (recorded : List Event) : Type 0 where
  pub setup : IsSound of
  pub events : All IsSoundEvent recorded
  pub lines : AreLines recorded
  pub few : length of.snapshot + length recorded + length of.checkpoints < 2 ^ 32

-- the log is theirs, its trees are all that the pool holds, and they are within its limit
pub record IsPutTogether (setup : Setup) (events : List Event) (kept : List Meaning) (limit : ℕ) (found : Log) : Type 0 where
  pub log : IsLogOf setup events kept found
  pub lines : AreLines events → RiseByLine found.events
  pub trees : kept ≡ pooled setup events
  pub fits : length (pooled setup events) ≤ limit

-- the context was built of them, and their trees are within the limit
pub record IsBuiltOf (of : Setup) (recorded : List Event) (limit : ℕ) (context : Known) : Type 0 where
  pub setup : context.setup ≡ of
  pub events : context.events ≡ recorded
  pub told : IsTold context
  pub fits : length (pooled of recorded) ≤ limit
