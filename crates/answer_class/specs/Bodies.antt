-- What the bodies of an event say (Kubernetes API, `meta/v1`, ObjectMeta, DeleteOptions and Preconditions).
use Rattle.std.specs.Prelude.{ℕ, ℤ, pos, ◌&&◌, ◌||◌, Bool, false, not, List, Option, Some, None, codes, int_lt}
use Rattle.base_types.specs.Meaning.{Meaning}
use Rattle.base_types.specs.Parts.{member_of, is_null, whole_of, items_of}
use Rattle.base_types.specs.Texts.{◌>>=◌}
use Rattle.base_types.specs.declared.kubernetes.request.RequestAttrs.{RequestAttrs}
use Rattle.audit_event.specs.declared.event.Body.{Body}
use Rattle.audit_event.specs.declared.event.Event.{Event}
use Rattle.setup_file.specs.Objects.{object_of}
use Rattle.setup_file.specs.declared.setup.SnapshotObject.{SnapshotObject}
use Rattle.setup_file.specs.declared.setup.Tracked.{Tracked}
use Rattle.setup_file.specs.Requests.{is_merge_patch}
use Rattle.answer_class.specs.Requests.{is_empty}
use Rattle.answer_class.specs.declared.request.Verb.{Verb}
use Rattle.answer_class.specs.declared.request.Verb.TheVariants.{Create, Update, Patch, Delete, DeleteCollection, Get, Listing, Other}
use Rattle.audit_event.specs.Bodies.{kept}

abbrev pub are_some : Option (List Meaning) → Bool
are_some None = false
are_some (Some items) = not (is_empty items)

-- the member is a list that isn't empty
abbrev pub has_items : Option Meaning → Bool
has_items None = false
has_items (Some tree) = are_some (items_of tree)

abbrev pub is_above_zero : Option ℤ → Bool
is_above_zero None = false
is_above_zero (Some number) = int_lt (pos 0) number

-- the member is a number above 0
abbrev pub is_positive : Option Meaning → Bool
is_positive None = false
is_positive (Some tree) = is_above_zero (whole_of tree)

-- the member is there and not null
abbrev pub is_there : Option Meaning → Bool
is_there None = false
is_there (Some tree) = not (is_null tree)

-- a member of an object's `metadata`
abbrev pub metadata_at : List ℕ → Meaning → Option Meaning
metadata_at name tree = member_of (codes "metadata") tree >>= member_of name

abbrev pub is_deleted : Meaning → Bool
is_deleted tree = is_there (metadata_at (codes "deletionTimestamp") tree)

-- it was deleted and still waits for finalizers, or for its grace period (Kubernetes "Finalizers")
abbrev pub is_finalizing : Meaning → Bool
is_finalizing tree =
    is_deleted tree && (has_items (metadata_at (codes "finalizers") tree) || is_positive (metadata_at (codes "deletionGracePeriodSeconds") tree))

-- it was deleted and waits for nothing more
abbrev pub is_ended : Meaning → Bool
is_ended tree = is_deleted tree && not (is_finalizing tree)

-- the object that the answer is, under the request's path
abbrev pub answered_object : Tracked → Event → Option SnapshotObject
answered_object tracked event = kept event.response >>= object_of tracked event.attrs.name event.attrs.namespace

-- the deletion asks for a dry run in its DeleteOptions
abbrev pub asks_dry : Verb → Body → Bool
asks_dry Create request = false
asks_dry Update request = false
asks_dry Patch request = false
asks_dry Delete request = has_items (kept request >>= member_of (codes "dryRun"))
asks_dry DeleteCollection request = has_items (kept request >>= member_of (codes "dryRun"))
asks_dry Get request = false
asks_dry Listing request = false
asks_dry Other request = false

-- a patch's body is there, and is a merge patch
abbrev pub is_merge_body : Tracked → RequestAttrs → Option Meaning → Bool
is_merge_body tracked attrs None = false
is_merge_body tracked attrs (Some body) = is_merge_patch tracked attrs body

abbrev pub is_merge : Tracked → Event → Bool
is_merge tracked event = is_merge_body tracked event.attrs (kept event.request)
