-- What an event says of the cluster: this is the table of classes read as one decision after another, and Table is the
-- table itself, whose rows the numbers below name.
use Rattle.std.specs.Prelude.{ℕ, ◌&&◌, ◌||◌, Bool, true, false, not, List, [], Option, Some, None, codes, bytes_eq, nat_lt, if◌then◌else◌}
use Rattle.base_types.specs.Meaning.{Meaning}
use Rattle.base_types.specs.Parts.{member_of}
use Rattle.base_types.specs.Texts.{◌>>=◌, filled_at}
use Rattle.base_types.specs.declared.kubernetes.key.ObjectKey.{ObjectKey}
use Rattle.base_types.specs.declared.kubernetes.request.RequestAttrs.{RequestAttrs}
use Rattle.audit_event.specs.declared.event.Event.{Event}
use Rattle.audit_event.specs.declared.event.Status.{Status}
use Rattle.setup_file.specs.declared.lists.ListRead.{ListRead}
use Rattle.setup_file.specs.declared.setup.Setup.{Setup}
use Rattle.setup_file.specs.declared.setup.SnapshotObject.{SnapshotObject}
use Rattle.setup_file.specs.declared.setup.Tracked.{Tracked}
use Rattle.audit_event.specs.Bodies.{kept}
use Rattle.answer_class.specs.Bodies.{is_finalizing, is_ended, answered_object, asks_dry}
use Rattle.answer_class.specs.Conditions.{tracked_conditions, has_conditions}
use Rattle.answer_class.specs.Covers.{is_create, cover_of}
use Rattle.answer_class.specs.Lists.{extent_of, list_namespace, answered_list, is_odd, is_old_list}
use Rattle.setup_file.specs.Requests.{tracked_of}
use Rattle.answer_class.specs.Requests.{is_empty, verb_of, is_write, is_read, is_completing, is_full, is_elsewhere, effect_of, is_own, is_nothing, is_unknown, has_filled, first_value, succeeds, is_code, is_done, is_open}
use Rattle.answer_class.specs.Times.{is_early, is_before, is_late}
use Rattle.answer_class.specs.declared.answer.Answer.{Answer}
use Rattle.answer_class.specs.declared.answer.Answer.TheVariants.{Made, Removed, Opaque, Saw, SawNone, SawSome, SawOther, Listed, Free, Aside}
use Rattle.answer_class.specs.declared.lists.Extent.{Extent}
use Rattle.answer_class.specs.declared.request.Effect.{Effect}
use Rattle.answer_class.specs.declared.request.Verb.{Verb}
use Rattle.answer_class.specs.declared.request.Verb.TheVariants.{Create, Update, Patch, Delete, DeleteCollection, Get, Listing, Other}

-- the key of the object at the path, or of one of this name beside it
abbrev pub key_named : Tracked → RequestAttrs → List ℕ → ObjectKey
key_named tracked attrs name = record { group = attrs.group; resource = attrs.resource; namespace = if tracked.namespaced then attrs.namespace else []; name = name }

abbrev pub path_key : Tracked → RequestAttrs → ObjectKey
path_key tracked attrs = key_named tracked attrs attrs.name

-- the response to a get is the object, and to a list the list
abbrev pub saw : Tracked → Event → Option SnapshotObject → Answer
saw tracked event None = Aside
saw tracked event (Some object) = Saw (path_key tracked event.attrs) object.revision object.uid object.tree

abbrev pub listed_within : Tracked → Event → ListRead → Extent → Answer
listed_within tracked event list extent =
    Listed event.attrs.group event.attrs.resource (list_namespace tracked event.attrs) list.revision extent.whole list.items extent.selector

abbrev pub listed : Tracked → Event → Option ListRead → Answer
listed tracked event None = Aside
listed tracked event (Some list) = listed_within tracked event list (extent_of event.attrs list.rest)

-- 17 and 19
abbrev pub got : Tracked → Event → Answer
got tracked event = if is_empty event.attrs.name then Aside else saw tracked event (answered_object tracked event)

-- 18 and 19
abbrev pub gathered : Tracked → Event → Answer
gathered tracked event = if is_own (effect_of tracked event.attrs) then listed tracked event (answered_list tracked event) else Aside

-- 17 to 20: a read that was answered `200 OK` by something else is set aside
abbrev pub read_by : Verb → Tracked → Event → Answer
read_by Create tracked event = Free
read_by Update tracked event = Free
read_by Patch tracked event = Free
read_by Delete tracked event = Free
read_by DeleteCollection tracked event = Free
read_by Get tracked event = got tracked event
read_by Listing tracked event = gathered tracked event
read_by Other tracked event = Free

abbrev pub read_class : Tracked → Event → Answer
read_class tracked event = if is_code 200 event.status.code then read_by (verb_of event.attrs.verb) tracked event else Free

-- the details of a Status name this object (Kubernetes `meta/v1`, StatusDetails)
abbrev pub tells_kind : Tracked → Status → Bool
tells_kind tracked status = is_empty status.kind || bytes_eq status.kind tracked.resource || bytes_eq status.kind tracked.kind

-- 404 NotFound, for a request at an object's own path
abbrev pub may_miss : Verb → Bool
may_miss Create = false
may_miss Update = true
may_miss Patch = true
may_miss Delete = true
may_miss DeleteCollection = false
may_miss Get = true
may_miss Listing = false
may_miss Other = false

abbrev pub is_missing : Tracked → Event → Bool
is_missing tracked event =
    may_miss (verb_of event.attrs.verb)
    && not (is_empty event.attrs.name)
    && is_code 404 event.status.code
    && bytes_eq event.status.reason (codes "NotFound")
    && bytes_eq event.status.name event.attrs.name
    && tells_kind tracked event.status
    && not (is_unknown (effect_of tracked event.attrs))

-- 409 AlreadyExists, for a create of the name that the request has
abbrev pub asked_name : Event → Option (List ℕ)
asked_name event = kept event.request >>= member_of (codes "metadata") >>= filled_at (codes "name")

abbrev pub is_taken : Tracked → Event → List ℕ → Bool
is_taken tracked event name =
    is_create (verb_of event.attrs.verb)
    && is_own (effect_of tracked event.attrs)
    && is_code 409 event.status.code
    && bytes_eq event.status.reason (codes "AlreadyExists")
    && bytes_eq event.status.name name

-- 409 Conflict, for a request with preconditions
abbrev pub tells_conflict : Tracked → Event → Bool
tells_conflict tracked event =
    not (is_unknown (effect_of tracked event.attrs))
    && is_code 409 event.status.code
    && bytes_eq event.status.reason (codes "Conflict")
    && bytes_eq event.status.name event.attrs.name

abbrev pub is_conflict : Tracked → Event → Bool
is_conflict tracked event = has_conditions (tracked_conditions tracked event) && tells_conflict tracked event

-- 16
abbrev pub conflict_class : Tracked → Event → Answer
conflict_class tracked event = if is_conflict tracked event then SawOther (path_key tracked event.attrs) else read_class tracked event

-- 15
abbrev pub taken_class : Tracked → Event → Option (List ℕ) → Answer
taken_class tracked event None = conflict_class tracked event
taken_class tracked event (Some name) = if is_taken tracked event name then SawSome (key_named tracked event.attrs name) else conflict_class tracked event

-- 14
abbrev pub refused_class : Tracked → Event → Answer
refused_class tracked event = if is_missing tracked event then SawNone (path_key tracked event.attrs) else taken_class tracked event (asked_name event)

-- what may lie outside the log, what wasn't recorded, and what isn't understood is set aside
abbrev pub is_outside : Setup → Tracked → Event → Bool
is_outside setup tracked event = is_early setup event || is_late setup event || not (is_full event.level) || is_elsewhere tracked event.attrs

-- a read at a revision that isn't understood, or a list at one below the start
abbrev pub is_out_of_sight : Setup → Event → Bool
is_out_of_sight setup event =
    is_odd (first_value (codes "resourceVersion") event.attrs) || is_old_list setup (verb_of event.attrs.verb) event

-- 11 to 13
abbrev pub later_class : Setup → Tracked → Event → Answer
later_class setup tracked event =
    if is_outside setup tracked event then Aside
    else (if is_read (verb_of event.attrs.verb) && is_unknown (effect_of tracked event.attrs) then Aside
    else (if is_read (verb_of event.attrs.verb) && is_out_of_sight setup event then Aside
    else refused_class tracked event))

-- the uid of the object that a delete removed: that of the Status that it was answered, or of the object
abbrev pub deleted_uid : Status → Option SnapshotObject → Option (List ℕ)
deleted_uid status object =
    if status.success && not (is_empty status.uid) then Some status.uid else (object >>= (λ o. if is_finalizing o.tree then None else Some o.uid))

-- an update that takes the last finalizer away removes the object
abbrev pub ended_uid : Option SnapshotObject → Option (List ℕ)
ended_uid object = object >>= (λ o. if is_ended o.tree then Some o.uid else None)

abbrev pub removed_uid : Verb → Event → Option SnapshotObject → Option (List ℕ)
removed_uid Create event object = None
removed_uid Update event object = ended_uid object
removed_uid Patch event object = ended_uid object
removed_uid Delete event object = deleted_uid event.status object
removed_uid DeleteCollection event object = None
removed_uid Get event object = None
removed_uid Listing event object = None
removed_uid Other event object = None

-- 9 and 10: the answer tells what was removed, or doesn't tell what the write did
abbrev pub removed : Setup → Tracked → Event → Option (List ℕ) → Answer
removed setup tracked event None = Opaque (cover_of tracked event)
removed setup tracked event (Some uid) = if is_early setup event then Opaque (cover_of tracked event) else Removed (path_key tracked event.attrs) uid

-- the answered object is what the write made
abbrev pub is_made_by : Verb → Meaning → Bool
is_made_by Create tree = true
is_made_by Update tree = not (is_ended tree)
is_made_by Patch tree = not (is_ended tree)
is_made_by Delete tree = is_finalizing tree
is_made_by DeleteCollection tree = false
is_made_by Get tree = false
is_made_by Listing tree = false
is_made_by Other tree = false

-- 7 and 8: a write that may have begun before the log counts where its revision lies in it
abbrev pub made : Setup → Event → SnapshotObject → Answer
made setup event object =
    if nat_lt setup.start object.revision || not (is_early setup event)
    then Made object.key object.revision object.uid object.tree (is_code 201 event.status.code)
    else Aside

-- 7 to 10: the answer is what was made, or tells what was removed
abbrev pub made_class : Setup → Tracked → Event → Option SnapshotObject → Answer
made_class setup tracked event None = removed setup tracked event (removed_uid (verb_of event.attrs.verb) event None)
made_class setup tracked event (Some object) =
    if is_done event.status.code && is_made_by (verb_of event.attrs.verb) object.tree
    then made setup event object
    else removed setup tracked event (removed_uid (verb_of event.attrs.verb) event (Some object))

-- what these writes make isn't their answer
abbrev pub is_hidden_by : Verb → Effect → Bool
is_hidden_by Create effect = not (is_own effect)
is_hidden_by Update effect = is_unknown effect
is_hidden_by Patch effect = is_unknown effect
is_hidden_by Delete effect = not (is_own effect)
is_hidden_by DeleteCollection effect = true
is_hidden_by Get effect = false
is_hidden_by Listing effect = false
is_hidden_by Other effect = false

abbrev pub is_hidden : Setup → Tracked → Event → Bool
is_hidden setup tracked event =
    is_late setup event || not (is_full event.level) || is_elsewhere tracked event.attrs || is_hidden_by (verb_of event.attrs.verb) (effect_of tracked event.attrs)

-- the request asks for a dry run, in its query or in its body
abbrev pub is_dry : Event → Bool
is_dry event = has_filled (codes "dryRun") event.attrs || asks_dry (verb_of event.attrs.verb) event.request

-- another verb, or a subresource that leaves the object
abbrev pub is_idle : Tracked → Event → Bool
is_idle tracked event =
    not (is_write (verb_of event.attrs.verb) || is_read (verb_of event.attrs.verb)) || is_nothing (effect_of tracked event.attrs)

-- 6 to 10: a write that was made
abbrev pub succeeded_class : Setup → Tracked → Event → Answer
succeeded_class setup tracked event =
    if is_hidden setup tracked event then Opaque (cover_of tracked event) else made_class setup tracked event (answered_object tracked event)

-- 2 to 5
abbrev pub tracked_class : Setup → Tracked → Event → Answer
tracked_class setup tracked event =
    if is_dry event then Free
    else (if is_idle tracked event then Free
    else (if is_write (verb_of event.attrs.verb) && is_before setup event then Aside
    else (if is_write (verb_of event.attrs.verb) && is_open event.status.code then Opaque (cover_of tracked event)
    else (if is_write (verb_of event.attrs.verb) && succeeds event.status.code then succeeded_class setup tracked event
    else later_class setup tracked event))))

-- 1
abbrev pub class_in : Setup → Option Tracked → Event → Answer
class_in setup None event = Aside
class_in setup (Some tracked) event = if is_completing event.stage then tracked_class setup tracked event else Aside

abbrev pub class_of : Setup → Event → Answer
class_of setup event = class_in setup (tracked_of setup event.attrs) event
