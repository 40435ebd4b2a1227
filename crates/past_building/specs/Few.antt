-- How much is found of a log at most.
use Rattle.std.specs.Prelude.{◌≤◌, ◌+◌, List, length}
use Rattle.write_groups.specs.declared.event.Item.{Item}
use Rattle.write_groups.specs.declared.event.LogEvent.{LogEvent}
use Rattle.past_building.specs.declared.log_past.LogPast.{LogPast}

-- no more versions than the snapshot has objects and the log events, and no more removals than it has events
pub record AreFew (snapshot : List Item) (events : List LogEvent) (past : LogPast) : Type 0 where
  pub versions : length past.versions ≤ length snapshot + length events
  pub removals : length past.removals ≤ length events
