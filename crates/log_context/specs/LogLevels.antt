-- What the audit policy says of an event (Kubernetes "Auditing", "Audit policy"). The policy is for the user who
-- authenticated, also where the request was made as someone else.
use Rattle.std.specs.Prelude.{Bool, true, false, not}
use Rattle.base_types.specs.declared.kubernetes.request.Level.{Level}
use Rattle.base_types.specs.declared.kubernetes.request.Level.TheVariants.{Metadata, Request, RequestResponse}
use Rattle.base_types.specs.declared.kubernetes.request.PolicyLevel.{PolicyLevel}
use Rattle.base_types.specs.declared.kubernetes.request.PolicyLevel.TheVariants.{NoLevel, Set}
use Rattle.base_types.specs.declared.kubernetes.request.Stage.{Stage}
use Rattle.base_types.specs.declared.kubernetes.request.Stage.TheVariants.{Received, Started, Complete, Panic}
use Rattle.base_types.specs.declared.kubernetes.request.StageSet.{StageSet}
use Rattle.audit_event.specs.declared.event.Event.{Event}
use Rattle.audit_policy.specs.Levels.{policy_level}
use Rattle.setup_file.specs.declared.setup.Setup.{Setup}

abbrev pub is_level : PolicyLevel → Level → Bool
is_level NoLevel level = false
is_level (Set Metadata) Metadata = true
is_level (Set Metadata) Request = false
is_level (Set Metadata) RequestResponse = false
is_level (Set Request) Metadata = false
is_level (Set Request) Request = true
is_level (Set Request) RequestResponse = false
is_level (Set RequestResponse) Metadata = false
is_level (Set RequestResponse) Request = false
is_level (Set RequestResponse) RequestResponse = true

abbrev pub has_stage : StageSet → Stage → Bool
has_stage stages Received = stages.received
has_stage stages Started = stages.started
has_stage stages Complete = stages.complete
has_stage stages Panic = stages.panic

-- the policy gives the request another level than the event's
abbrev pub other_level : Setup → Event → Bool
other_level setup event = not (is_level (policy_level setup.policy event.attrs event.user).0 event.level)

-- the policy omits the event's stage
abbrev pub omitted_stage : Setup → Event → Bool
omitted_stage setup event = has_stage (policy_level setup.policy event.attrs event.user).1 event.stage
