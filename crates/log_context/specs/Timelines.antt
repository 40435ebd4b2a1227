-- The timeline of the roles and bindings of a past.
use Rattle.std.specs.Prelude.{◌≡◌, List}
use Rattle.base_types.specs.Meaning.{Meaning}
use Rattle.history_model.specs.Histories.{History}
use Rattle.object_past.specs.Past.{Recorded}
use Rattle.past_building.specs.Hidden.{unrecorded_in}
use Rattle.rbac_timeline.specs.Known.{Known}
use Rattle.rbac_timeline.specs.Sound.{AreSound}
use Rattle.setup_file.specs.declared.setup.Setup.{Setup}
use Rattle.time_windows.specs.History as timed
use Rattle.log_context.specs.Roles.{AreRoles, role_ends}
use Rattle.write_groups.specs.Modelled.{HasTimes}
use Rattle.write_groups.specs.declared.event.LogEvent.{LogEvent}

-- it has the roles and bindings of the past, their ends, and where unrecorded writes of the log may hide others
pub record IsTimelineOf (setup : Setup) (trees : List Meaning) (past : Recorded) (windows : timed.History) (log : List LogEvent) (timeline : Known) : Type 0 where
  pub versions : AreRoles trees past.versions timeline.versions
  pub ends : timeline.ends ≡ role_ends past.removals
  pub spans : (h : History) → HasTimes windows h → timeline.spans ≡ unrecorded_in h log
  pub bypass : timeline.bypass ≡ setup.bypass
  pub sound : AreSound timeline.versions timeline.ends
