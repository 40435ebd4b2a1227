-- The table of classes: twenty rows, of which the first that applies to an event gives its class. Each row is named by
-- what it stands for, and gives an answer where it applies.
use Rattle.std.specs.Prelude.{◌&&◌, ◌||◌, Bool, true, false, not, List, [], ◌∷◌, Option, Some, None, nat_lt, if◌then◌else◌}
use Rattle.base_types.specs.Texts.{◌>>=◌}
use Rattle.audit_event.specs.declared.event.Event.{Event}
use Rattle.setup_file.specs.declared.setup.Setup.{Setup}
use Rattle.setup_file.specs.declared.setup.SnapshotObject.{SnapshotObject}
use Rattle.setup_file.specs.declared.setup.Tracked.{Tracked}
use Rattle.answer_class.specs.Bodies.{answered_object}
use Rattle.answer_class.specs.Classes.{key_named, path_key, listed_within, is_missing, asked_name, is_taken, is_conflict, is_outside, is_out_of_sight, removed_uid, is_made_by, is_hidden, is_dry, is_idle}
use Rattle.answer_class.specs.Covers.{cover_of}
use Rattle.answer_class.specs.Lists.{extent_of, answered_list}
use Rattle.setup_file.specs.Requests.{tracked_of}
use Rattle.answer_class.specs.Requests.{is_empty, verb_of, is_write, is_read, is_completing, effect_of, is_own, is_unknown, succeeds, is_code, is_done, is_open}
use Rattle.answer_class.specs.Times.{is_early, is_before}
use Rattle.answer_class.specs.declared.answer.Answer.{Answer}
use Rattle.answer_class.specs.declared.answer.Answer.TheVariants.{Made, Removed, Opaque, Saw, SawNone, SawSome, SawOther, Free, Aside}
use Rattle.answer_class.specs.declared.request.Verb.{Verb}
use Rattle.answer_class.specs.declared.request.Verb.TheVariants.{Create, Update, Patch, Delete, DeleteCollection, Get, Listing, Other}

-- what a row gives where it applies
abbrev pub when : Bool → Answer → Option Answer
when true answer = Some answer
when false answer = None

abbrev pub is_write_event : Event → Bool
is_write_event event = is_write (verb_of event.attrs.verb)

abbrev pub is_read_event : Event → Bool
is_read_event event = is_read (verb_of event.attrs.verb)

-- 2: a dry run changes nothing (Kubernetes API concepts, "Dry-run")
abbrev pub dry_run : Event → Option Answer
dry_run event = when (is_dry event) Free

-- 3: a verb that neither writes nor reads the object, or a subresource that leaves it as it is
abbrev pub idle_request : Tracked → Event → Option Answer
idle_request tracked event = when (is_idle tracked event) Free

-- 4: a write that ended before the log begins
abbrev pub bygone_write : Setup → Event → Option Answer
bygone_write setup event = when (is_write_event event && is_before setup event) Aside

-- 5: a write of which it can't be told whether it was made: it has no HTTP status, or an error of the server
abbrev pub unanswered_write : Tracked → Event → Option Answer
unanswered_write tracked event = when (is_write_event event && is_open event.status.code) (Opaque (cover_of tracked event))

-- 6: a write that was made and whose object isn't recorded: behind the log's end, without bodies, in another version,
-- of a collection, or through a subresource that makes no object of its own
abbrev pub unrecorded_write : Setup → Tracked → Event → Option Answer
unrecorded_write setup tracked event =
    when (is_write_event event && succeeds event.status.code && is_hidden setup tracked event) (Opaque (cover_of tracked event))

-- the object that a write made is what it was answered with (`200 OK`, `201 Created`, `202 Accepted`)
abbrev pub is_made : Event → SnapshotObject → Bool
is_made event object = is_done event.status.code && is_made_by (verb_of event.attrs.verb) object.tree

abbrev pub counts : Setup → Event → SnapshotObject → Bool
counts setup event object = nat_lt setup.start object.revision || not (is_early setup event)

-- 7: a write that was answered with the object that it made, in the log or above its start
abbrev pub made_object : Setup → Tracked → Event → Option Answer
made_object setup tracked event = answered_object tracked event >>= (λ object.
    when (is_made event object && counts setup event object) (Made object.key object.revision object.uid object.tree (is_code 201 event.status.code)))

-- 8: the same, made before the log
abbrev pub made_before : Setup → Tracked → Event → Option Answer
made_before setup tracked event = answered_object tracked event >>= (λ object. when (is_made event object && not (counts setup event object)) Aside)

-- 9: a delete whose answer tells the uid of what it removed, or an update that ended a deleted object (Kubernetes "Finalizers")
abbrev pub removed_object : Setup → Tracked → Event → Option Answer
removed_object setup tracked event = removed_uid (verb_of event.attrs.verb) event (answered_object tracked event) >>= (λ uid.
    when (succeeds event.status.code && not (is_early setup event)) (Removed (path_key tracked event.attrs) uid))

-- 10: any other write that was made
abbrev pub other_write : Tracked → Event → Option Answer
other_write tracked event = when (is_write_event event && succeeds event.status.code) (Opaque (cover_of tracked event))

-- 11: it may lie outside the log, has no bodies, or is in another version
abbrev pub outside_log : Setup → Tracked → Event → Option Answer
outside_log setup tracked event = when (is_outside setup tracked event) Aside

-- 12: a read through a subresource that isn't known
abbrev pub unknown_read : Tracked → Event → Option Answer
unknown_read tracked event = when (is_read_event event && is_unknown (effect_of tracked event.attrs)) Aside

-- 13: a read at a resource version that isn't understood, or a list at one below the start (Kubernetes API concepts, "Resource versions")
abbrev pub old_read : Setup → Event → Option Answer
old_read setup event = when (is_read_event event && is_out_of_sight setup event) Aside

-- 14: `404 NotFound` for the object at the path
abbrev pub not_found : Tracked → Event → Option Answer
not_found tracked event = when (is_missing tracked event) (SawNone (path_key tracked event.attrs))

-- 15: `409 AlreadyExists` for the name that a create asks for
abbrev pub already_exists : Tracked → Event → Option Answer
already_exists tracked event = asked_name event >>= (λ name. when (is_taken tracked event name) (SawSome (key_named tracked event.attrs name)))

-- 16: `409 Conflict` for a request with preconditions
abbrev pub conflict : Tracked → Event → Option Answer
conflict tracked event = when (is_conflict tracked event) (SawOther (path_key tracked event.attrs))

abbrev pub is_get : Verb → Bool
is_get Create = false
is_get Update = false
is_get Patch = false
is_get Delete = false
is_get DeleteCollection = false
is_get Get = true
is_get Listing = false
is_get Other = false

abbrev pub is_list : Verb → Bool
is_list Create = false
is_list Update = false
is_list Patch = false
is_list Delete = false
is_list DeleteCollection = false
is_list Get = false
is_list Listing = true
is_list Other = false

-- 17: a get that was answered `200 OK` with the object
abbrev pub got_object : Tracked → Event → Option Answer
got_object tracked event = answered_object tracked event >>= (λ object.
    when (is_get (verb_of event.attrs.verb) && is_code 200 event.status.code && not (is_empty event.attrs.name))
    (Saw (path_key tracked event.attrs) object.revision object.uid object.tree))

-- 18: a list that was answered `200 OK` with a list of objects
abbrev pub listed_objects : Tracked → Event → Option Answer
listed_objects tracked event = answered_list tracked event >>= (λ list.
    when (is_list (verb_of event.attrs.verb) && is_code 200 event.status.code && is_own (effect_of tracked event.attrs))
    (listed_within tracked event list (extent_of event.attrs list.rest)))

-- 19: a read that was answered `200 OK` with something else, as a Table
abbrev pub other_read : Event → Option Answer
other_read event = when (is_read_event event && is_code 200 event.status.code) Aside

-- the rows of a request for a tracked resource, in order
abbrev pub rows : Setup → Tracked → Event → List (Option Answer)
rows setup tracked event =
    dry_run event
    ∷ idle_request tracked event
    ∷ bygone_write setup event
    ∷ unanswered_write tracked event
    ∷ unrecorded_write setup tracked event
    ∷ made_object setup tracked event
    ∷ made_before setup tracked event
    ∷ removed_object setup tracked event
    ∷ other_write tracked event
    ∷ outside_log setup tracked event
    ∷ unknown_read tracked event
    ∷ old_read setup event
    ∷ not_found tracked event
    ∷ already_exists tracked event
    ∷ conflict tracked event
    ∷ got_object tracked event
    ∷ listed_objects tracked event
    ∷ other_read event
    ∷ []

-- the class of the first row that applies; 20: every other event says nothing of any object
abbrev pub first_row : List (Option Answer) → Answer
first_row [] = Free
first_row (None ∷ later) = first_row later
first_row (Some answer ∷ later) = answer

-- 1: an event is set aside that isn't the last one of its request, or isn't a request for a tracked resource
abbrev pub by_table_of : Setup → Option Tracked → Event → Answer
by_table_of setup None event = Aside
by_table_of setup (Some tracked) event = if is_completing event.stage then first_row (rows setup tracked event) else Aside

abbrev pub by_table : Setup → Event → Answer
by_table setup event = by_table_of setup (tracked_of setup event.attrs) event
