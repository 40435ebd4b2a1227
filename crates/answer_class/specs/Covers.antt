-- The objects that an unrecorded write may have changed.
use Rattle.std.specs.Prelude.{ℕ, Bool, true, false, List, [], Option, Some, None, codes, if◌then◌else◌}
use Rattle.base_types.specs.Meaning.{Meaning}
use Rattle.base_types.specs.Parts.{member_of}
use Rattle.base_types.specs.Texts.{◌>>=◌, filled_at}
use Rattle.base_types.specs.declared.kubernetes.key.Cover.{Cover}
use Rattle.base_types.specs.declared.kubernetes.key.CoverName.{CoverName}
use Rattle.base_types.specs.declared.kubernetes.key.CoverName.TheVariants.{Exact, Prefix, Any}
use Rattle.base_types.specs.declared.kubernetes.request.RequestAttrs.{RequestAttrs}
use Rattle.audit_event.specs.declared.event.Event.{Event}
use Rattle.setup_file.specs.declared.setup.Tracked.{Tracked}
use Rattle.audit_event.specs.Bodies.{kept}
use Rattle.answer_class.specs.Requests.{is_empty, verb_of}
use Rattle.answer_class.specs.declared.request.Verb.{Verb}
use Rattle.answer_class.specs.declared.request.Verb.TheVariants.{Create, Update, Patch, Delete, DeleteCollection, Get, Listing, Other}

abbrev pub is_create : Verb → Bool
is_create Create = true
is_create Update = false
is_create Patch = false
is_create Delete = false
is_create DeleteCollection = false
is_create Get = false
is_create Listing = false
is_create Other = false

-- a generated name begins with `generateName` (Kubernetes API concepts, "Generated names")
abbrev pub generated : Option (List ℕ) → CoverName
generated None = Any
generated (Some front) = Prefix front

abbrev pub named_or_generated : Option (List ℕ) → Option (List ℕ) → CoverName
named_or_generated None front = generated front
named_or_generated (Some name) front = Exact name

-- the name of an object that is to be created
abbrev pub created_name : Option Meaning → CoverName
created_name None = Any
created_name (Some metadata) = named_or_generated (filled_at (codes "name") metadata) (filled_at (codes "generateName") metadata)

abbrev pub cover_name : Event → CoverName
cover_name event =
    if is_empty event.attrs.name
    then (if is_create (verb_of event.attrs.verb) then created_name (kept event.request >>= member_of (codes "metadata")) else Any)
    else Exact event.attrs.name

-- any namespace where the resource has namespaces and the path names none
abbrev pub cover_namespace : Tracked → RequestAttrs → Option (List ℕ)
cover_namespace tracked attrs = if tracked.namespaced then (if is_empty attrs.namespace then None else Some attrs.namespace) else Some []

abbrev pub cover_of : Tracked → Event → Cover
cover_of tracked event = record {
  group = event.attrs.group;
  resource = event.attrs.resource;
  namespace = cover_namespace tracked event.attrs;
  name = cover_name event;
  creates = is_create (verb_of event.attrs.verb);
}
