-- What a write asks its object to become.
use Rattle.std.specs.Prelude.{List, Option, Some, None, is_some, Result, Ok, Err, if◌then◌else◌}
use Rattle.std.specs.List.{list_any}
use Rattle.audit_event.specs.Bodies.{kept}
use Rattle.base_types.specs.Meaning.{Meaning}
use Rattle.base_types.specs.Parts.{items_of}
use Rattle.base_types.specs.Stored.{stored}
use Rattle.json_patch.specs.Patches.{applied}
use Rattle.json_patch.specs.Reading.{patch_of}
use Rattle.json_patch.specs.declared.fault.ApplyFault.{ApplyFault}
use Rattle.json_patch.specs.declared.fault.PatchFault.{PatchFault}
use Rattle.json_patch.specs.declared.op.Op.{Op}
use Rattle.merge_patch.specs.Merging.{merged}
use Rattle.audit_event.specs.declared.event.Event.{Event}
use Rattle.setup_file.specs.declared.setup.Tracked.{Tracked}
use Rattle.request_bodies.specs.Patched.{typed, untyped, touches_managed}
use Rattle.request_bodies.specs.Requests.{write_of, is_created, is_of_another}
use Rattle.request_bodies.specs.declared.asked.Asking.{Asking}
use Rattle.request_bodies.specs.declared.asked.Asking.TheVariants.{NotJudged, Wrong, Whole, Finalizing}
use Rattle.request_bodies.specs.declared.requests.Write.{Write}
use Rattle.request_bodies.specs.declared.requests.Write.TheVariants.{Put, Patch, Delete, Other}
use Rattle.setup_file.specs.Requests.{is_merge_patch}

-- a create or an update sends the object
abbrev pub asked_by_object : Tracked → Meaning → Asking
asked_by_object tracked body = if is_of_another tracked body then NotJudged else Whole (stored body)

-- the old object after a patch, or a patch that can't be applied
abbrev pub patched : Result Meaning ApplyFault → Asking
patched (Ok tree) = Whole (untyped tree)
patched (Err fault) = Wrong

-- the operations of a JSON Patch (RFC 6902), one after another; there is nothing to patch without an old object
abbrev pub asked_by_operations : Tracked → List Op → Option Meaning → Asking
asked_by_operations tracked ops None = Wrong
asked_by_operations tracked ops (Some old) = patched (applied 0 ops (typed tracked old))

-- managed fields aren't kept, so that what is done to them can't be told
abbrev pub asked_by_json_patch : Tracked → Result (List Op) PatchFault → Option Meaning → Asking
asked_by_json_patch tracked (Err fault) old = Wrong
asked_by_json_patch tracked (Ok ops) old = if list_any touches_managed ops then NotJudged else asked_by_operations tracked ops old

-- a merge patch (RFC 7386, now RFC 7396)
abbrev pub asked_by_merge_patch : Tracked → Meaning → Option Meaning → Asking
asked_by_merge_patch tracked body None = Wrong
asked_by_merge_patch tracked body (Some old) = Whole (untyped (merged (Some (typed tracked old)) body))

-- a list is a JSON Patch; other patches than these two aren't understood
abbrev pub asked_by_patch : Tracked → Event → Meaning → Option Meaning → Asking
asked_by_patch tracked event body old =
    if is_some (items_of body) then asked_by_json_patch tracked (patch_of body) old
    else (if is_merge_patch tracked event.attrs body then asked_by_merge_patch tracked body old else NotJudged)

-- a delete leaves the object, but for the marks of a deletion (Kubernetes "Finalizers"). What a patch made that created
-- the object is up to the server.
abbrev pub asked_by : Write → Tracked → Event → Meaning → Option Meaning → Asking
asked_by Put tracked event body old = asked_by_object tracked body
asked_by Patch tracked event body old = if is_created event.status.code then NotJudged else asked_by_patch tracked event body old
asked_by Delete tracked event body old = Finalizing
asked_by Other tracked event body old = NotJudged

-- nothing is known of a body that wasn't recorded
abbrev pub asked_in : Tracked → Event → Option Meaning → Option Meaning → Asking
asked_in tracked event None old = NotJudged
asked_in tracked event (Some body) old = asked_by (write_of event.attrs.verb) tracked event body old

-- what the write of an event asks of the old object, or of none
abbrev pub asked_of : Tracked → Event → Option Meaning → Asking
asked_of tracked event old = asked_in tracked event (kept event.request) old
