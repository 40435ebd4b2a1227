-- A timeline that is built of the roles and bindings of a past is the one of that past.
use Rattle.std.proofs.Common.{◌≡◌, ◌∙◌, List, Ok, Err, IfOk, subst, sym}
use Rattle.std.specs.declared.result.Result.{Result}
use Rattle.base_types.specs.Meaning.{Meaning}
use Rattle.clouds.specs.declared.span.OpaqueSpan.{OpaqueSpan}
use Rattle.history_model.specs.Histories.{History}
use Rattle.object_past.specs.Past.{Recorded}
use Rattle.past_building.specs.Hidden.{unrecorded_in}
use Rattle.rbac_timeline.specs.Known.{Known}
use Rattle.rbac_timeline.specs.Sound.{AreSound}
use Rattle.rbac_timeline.specs.declared.version.RbacEnd.{RbacEnd}
use Rattle.rbac_timeline.specs.declared.version.RbacVersion.{RbacVersion}
use Rattle.setup_file.specs.declared.setup.Setup.{Setup}
use Rattle.time_windows.specs.History as timed
use Rattle.log_context.specs.Roles.{AreRoles, role_ends}
use Rattle.log_context.specs.Timelines.{IsTimelineOf}
use Rattle.write_groups.specs.Modelled.{HasTimes}
use Rattle.write_groups.specs.declared.event.LogEvent.{LogEvent}

module _ (setup : Setup) (trees : List Meaning) (past : Recorded) (windows : timed.History) (log : List LogEvent)
    (roles : List RbacVersion) (ends : List RbacEnd) (spans : List OpaqueSpan)
    (are : AreRoles trees past.versions roles) (ended : ends ≡ role_ends past.removals) (hidden : (h : History) → HasTimes windows h → spans ≡ unrecorded_in h log) (sound : AreSound roles ends)
  where
    pub timeline_is : {E : Type 0} (built : Result Known E) → IfOk built (λ t. t.versions ≡ roles) → IfOk built (λ t. t.ends ≡ ends)
        → IfOk built (λ t. t.spans ≡ spans) → IfOk built (λ t. t.bypass ≡ setup.bypass) → IfOk built (IsTimelineOf setup trees past windows log)
    timeline_is (Err e) v n s b = tt
    timeline_is (Ok t) v n s b = record {
      versions = subst (AreRoles trees past.versions) (sym v) are;
      ends = n ∙ ended;
      spans = λ h times. s ∙ hidden h times;
      bypass = b;
      sound = subst (λ l. AreSound l t.ends) (sym v) (subst (AreSound roles) (sym n) sound);
    }
