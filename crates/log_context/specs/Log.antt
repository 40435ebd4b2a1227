-- A log as the model of history sees it.
use Rattle.std.specs.Prelude.{ℕ, ◌<◌, ◌≤◌, List, All, AllPairs}
use Rattle.base_types.specs.Meaning.{Meaning}
use Rattle.audit_event.specs.declared.event.Event.{Event}
use Rattle.setup_file.specs.declared.setup.Setup.{Setup}
use Rattle.write_groups.specs.declared.event.LogEvent.{LogEvent}
use Rattle.write_groups.specs.declared.event.Reading.{Reading}
use Rattle.write_groups.specs.declared.event.Reading.TheVariants.{MostRecent, AnyVersion, NotOlderThan, Exactly, Checkpoint}
use Rattle.log_context.specs.LogSelectors.{AreSelectorsOf}
use Rattle.log_context.specs.Logged.{AreLogged, last_line}
use Rattle.log_context.specs.Shown.{AreItemsOf}
use Rattle.log_context.specs.declared.log.Log.{Log}

-- a checkpoint isn't older than the snapshot
abbrev pub IsNotOlder : ℕ → Reading → Type 0
IsNotOlder start MostRecent = Unit {0}
IsNotOlder start AnyVersion = Unit {0}
IsNotOlder start (NotOlderThan revision) = Unit {0}
IsNotOlder start (Exactly revision) = Unit {0}
IsNotOlder start (Checkpoint revision) = start ≤ revision

-- the log of this setup and these events, with the trees of their objects by number
pub record IsLogOf (setup : Setup) (events : List Event) (trees : List Meaning) (log : Log) : Type 0 where
  pub snapshot : AreItemsOf trees setup.snapshot log.snapshot
  pub logged : AreLogged setup trees events log.events
  pub selectors : AreSelectorsOf setup events log.selectors
  pub checkpoints : All (λ event. IsNotOlder setup.start event.reading) log.events

-- the lines of the events of a log
pub record AreLines (events : List Event) : Type 0 where
  pub numbered : All (λ event. 0 < event.line) events
  pub rising : AllPairs (λ a b. a.line < b.line) events
  pub within : All (λ event. event.line ≤ last_line) events

-- the lines of events and of the checkpoints behind them
pub record RiseByLine (logged : List LogEvent) : Type 0 where
  pub numbered : All (λ event. 0 < event.line) logged
  pub rising : AllPairs (λ a b. a.line < b.line) logged
