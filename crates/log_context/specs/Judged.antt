-- Which recorded decisions are judged, and whose they are (Kubernetes "Authorization"; "Authenticating", "User
-- impersonation").
use Rattle.std.specs.Prelude.{ℤ, pos, ◌-ℤ◌, ◌&&◌, Bool, not, Option, Some, None, int_lt, if◌then◌else◌}
use Rattle.std.specs.List.{list_any}
use Rattle.base_types.specs.Matching.{has_text}
use Rattle.base_types.specs.declared.kubernetes.request.Decision.{Decision}
use Rattle.base_types.specs.declared.kubernetes.request.User.{User}
use Rattle.audit_event.specs.declared.event.Event.{Event}
use Rattle.setup_file.specs.declared.setup.Setup.{Setup}
use Rattle.answer_class.specs.Requests.{is_completing}
use Rattle.answer_class.specs.Times.{lo, is_late}

abbrev pub user_or : Option User → User → User
user_or None user = user
user_or (Some impersonated) user = impersonated

-- whom the request was made as, or who authenticated
abbrev pub judged_user : Event → User
judged_user event = user_or event.impersonated event.user

-- the user is in a group whose members' decisions aren't judged
abbrev pub is_skipped : Setup → User → Bool
is_skipped setup user = list_any (has_text setup.skip) user.groups

-- an authorizer may have known less at the moment than the log does
abbrev pub is_behind : Setup → ℤ → Bool
is_behind setup at = int_lt (at -ℤ pos setup.lag) setup.start_time.0

abbrev pub is_judged : Setup → Event → Bool
is_judged setup event =
    setup.authorize
    && is_completing event.stage
    && not (is_skipped setup (judged_user event))
    && not (is_behind setup (lo setup event))
    && not (is_late setup event)

-- the recorded decision, where it is judged
abbrev pub judged_decision : Setup → Event → Option Decision
judged_decision setup event = if is_judged setup event then event.decision else None
