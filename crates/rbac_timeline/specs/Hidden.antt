-- Whether unrecorded writes may have changed an object, as a test.
use Rattle.std.specs.Prelude.{ℕ, Bool, true, not, ◌&&◌, ◌||◌, List, Option, Some, None, bytes_eq, nat_eq, nat_lt}
use Rattle.std.specs.List.{list_all, list_any, starts_with}
use Rattle.base_types.specs.Keys.{same_key}
use Rattle.base_types.specs.declared.kubernetes.key.Cover.{Cover}
use Rattle.base_types.specs.declared.kubernetes.key.CoverName.{CoverName}
use Rattle.base_types.specs.declared.kubernetes.key.CoverName.TheVariants.{Any, Exact, Prefix}
use Rattle.base_types.specs.declared.kubernetes.key.ObjectKey.{ObjectKey}
use Rattle.clouds.specs.Writes.{Writes}
use Rattle.clouds.specs.declared.span.KeyRevision.{KeyRevision}
use Rattle.clouds.specs.declared.span.OpaqueSpan.{OpaqueSpan}

-- a cover's name takes one, and its namespace
abbrev pub takes_name : CoverName → List ℕ → Bool
takes_name (Exact given) name = bytes_eq name given
takes_name (Prefix front) name = starts_with nat_eq name front
takes_name Any name = true

abbrev pub takes_namespace : Option (List ℕ) → List ℕ → Bool
takes_namespace None namespace = true
takes_namespace (Some given) namespace = bytes_eq namespace given

abbrev pub covers : Cover → ObjectKey → Bool
covers cover key = bytes_eq key.group cover.group && (bytes_eq key.resource cover.resource && (takes_namespace cover.namespace key.namespace && takes_name cover.name key.name))

-- the revision isn't one of the key, behind the write, that shows the object again by the place
abbrev pub is_unseen : ObjectKey → ℕ → ℕ → KeyRevision → Bool
is_unseen key high place r = not (same_key r.key key && nat_lt high r.revision) || nat_lt place r.revision

abbrev pub is_hidden_by : List KeyRevision → ObjectKey → ℕ → OpaqueSpan → Bool
is_hidden_by revisions key place span = covers span.cover key && (nat_lt span.low place && list_all (is_unseen key span.high place) revisions)

-- nothing is known of the key's object at this place
abbrev pub is_clouded : Writes → ObjectKey → ℕ → Bool
is_clouded writes key place = list_any (is_hidden_by writes.revisions key place) writes.spans
