-- The histories of a log with what is found of it.
use Rattle.std.specs.Prelude.{◌≡◌, ℕ, Bool, List, Option, map}
use Rattle.history_model.specs.Groups.{AreSpans}
use Rattle.history_model.specs.Histories.{History}
use Rattle.history_model.specs.Incarnations.{AreRemovals}
use Rattle.history_model.specs.Judging.{IsOrder}
use Rattle.history_model.specs.Makers.{AreVersions}
use Rattle.object_past.specs.Modelled.{recorded, version_of}
use Rattle.write_groups.specs.Members.{AreGroupsOf}
use Rattle.write_groups.specs.Modelled.{HasEvents, item_of, span_of}
use Rattle.write_groups.specs.declared.event.Item.{Item}
use Rattle.write_groups.specs.declared.event.LogEvent.{LogEvent}
use Rattle.past_building.specs.Modelled.{AreCloudsOf}
use Rattle.past_building.specs.Written.{AreAllJudged}
use Rattle.past_building.specs.declared.log_past.LogPast.{LogPast}

-- the history of this setup and log has the order, the spans, the versions and the removals that were found
pub record HasFound (start : ℕ) (snapshot : List Item) (events : List LogEvent) (body : ℕ → Option ℕ → Bool) (past : LogPast) (h : History) : Type 0 where
  pub begins : h.start ≡ start
  pub listed : h.snapshot ≡ map item_of snapshot
  pub all : HasEvents events h
  pub bodies : h.body ≡ body
  pub order : h.order ≡ past.order.items
  pub spans : h.spans ≡ map span_of past.windows.spans
  pub versions : h.versions ≡ map version_of past.versions
  pub removals : h.removals ≡ map recorded past.removals

-- what was found is right in the history
pub record IsPastOf (events : List LogEvent) (past : LogPast) (h : History) : Type 0 where
  pub order : IsOrder h
  pub spans : AreSpans h
  pub clouds : AreCloudsOf past.clouds h
  pub groups : AreGroupsOf h past.groups
  pub versions : AreVersions h
  pub judged : AreAllJudged h events past.groups past.judged.items
  pub removals : AreRemovals h
