-- What of a history is known before its versions are.
use Rattle.std.specs.Prelude.{◌≡◌, ℕ, Bool, List, Option}
use Rattle.clouds.specs.Writes.{Writes}
use Rattle.history_model.specs.Histories.{History}
use Rattle.history_model.specs.Judging.{IsOrder}
use Rattle.time_windows.specs.History as timed_history
use Rattle.write_groups.specs.Modelled.{HasEvents, HasTimes}
use Rattle.write_groups.specs.declared.event.LogEvent.{LogEvent}
use Rattle.past_building.specs.Keyed.{RemovalNumbers}
use Rattle.past_building.specs.Modelled.{AreCloudsOf}
use Rattle.past_building.specs.Removals.{AreFirstRemovals}

-- the history is one of this log: its events, its windows, its order of judgement and its first removals
pub record HasLog (windows : timed_history.History) (events : List LogEvent) (removed : RemovalNumbers) (h : History) : Type 0 where
  pub times : HasTimes windows h
  pub all : HasEvents events h
  pub order : IsOrder h
  pub removals : AreFirstRemovals events h.order removed

-- its clouds, and how bodies are judged
pub record IsJudgedBy (writes : Writes) (body : ℕ → Option ℕ → Bool) (h : History) : Type 0 where
  pub clouds : AreCloudsOf writes h
  pub bodies : h.body ≡ body
