-- Which decisions caches at these places could give, as a test. The greatest states of roles and bindings allow what may
-- be allowed, the least ones what is allowed for certain.
use Rattle.std.specs.Prelude.{ℕ, Bool, true, false, not, ◌&&◌, ◌||◌, ◌==◌, List, ◌++◌, map, filter_map, Option, Some, None, nat_le, nat_lt}
use Rattle.std.specs.List.{list_all, list_any}
use Rattle.base_types.specs.Matching.{has_text}
use Rattle.base_types.specs.declared.kubernetes.key.Cover.{Cover}
use Rattle.base_types.specs.declared.kubernetes.key.CoverName.{CoverName}
use Rattle.base_types.specs.declared.kubernetes.key.CoverName.TheVariants.{Any, Exact, Prefix}
use Rattle.base_types.specs.declared.kubernetes.key.ObjectKey.{ObjectKey}
use Rattle.base_types.specs.declared.verdict.placed.Places.{Places}
use Rattle.base_types.specs.declared.kubernetes.request.Decision.{Decision}
use Rattle.base_types.specs.declared.kubernetes.request.Decision.TheVariants.{Allow, Forbid}
use Rattle.base_types.specs.declared.kubernetes.request.RequestAttrs.{RequestAttrs}
use Rattle.base_types.specs.declared.kubernetes.request.User.{User}
use Rattle.clouds.specs.declared.span.OpaqueSpan.{OpaqueSpan}
use Rattle.rbac_rules.specs.declared.binding.Binding.{Binding}
use Rattle.rbac_timeline.specs.declared.kind.Kind.{Kind}
use Rattle.rbac_timeline.specs.declared.kind.Kind.TheVariants.{Role as RoleKind, ClusterRole, RoleBinding, ClusterRoleBinding}
use Rattle.rbac_timeline.specs.declared.version.RbacContent.{RbacContent}
use Rattle.rbac_timeline.specs.declared.version.RbacContent.TheVariants.{Bound, Role, Unreadable}
use Rattle.rbac_timeline.specs.declared.version.RbacEnd.{RbacEnd}
use Rattle.rbac_timeline.specs.declared.version.RbacVersion.{RbacVersion}
use Rattle.base_types.specs.Keys.{same_key}
use Rattle.rbac_timeline.specs.Hidden.{is_clouded, takes_namespace}
use Rattle.rbac_timeline.specs.Kinds.{is_cluster_binding, kind_of_key, nameless_kind, role_key}
use Rattle.rbac_timeline.specs.Known.{Known, writes_of}
use Rattle.rbac_timeline.specs.Requests.{grants, means}

-- the place of the cache that holds the objects of a kind
abbrev pub cache_place : Option Kind → Places → ℕ
cache_place None places = places.cluster_bindings
cache_place (Some RoleKind) places = places.roles
cache_place (Some ClusterRole) places = places.cluster_roles
cache_place (Some RoleBinding) places = places.bindings
cache_place (Some ClusterRoleBinding) places = places.cluster_bindings

-- a version of the key at or below the place
abbrev pub is_version : ObjectKey → ℕ → RbacVersion → Bool
is_version key place version = same_key version.key key && nat_le version.revision place

-- and no version of the key is between it and the place
abbrev pub is_latest : List RbacVersion → ObjectKey → ℕ → RbacVersion → Bool
is_latest versions key place version =
    is_version key place version && list_all (λ other. not (is_version key place other) || nat_le other.revision version.revision) versions

-- the removal of the object whose last version this is
abbrev pub is_end_of : RbacVersion → RbacEnd → Bool
is_end_of version end = same_key end.key version.key && (end.last == version.revision)

-- the version's object may be there, as far as removals say, and it is there for certain
abbrev pub is_not_gone : List RbacEnd → ℕ → RbacVersion → Bool
is_not_gone ends place version = list_all (λ end. not (is_end_of version end) || nat_lt place end.high) ends

abbrev pub is_certain : List RbacEnd → ℕ → RbacVersion → Bool
is_certain ends place version = list_all (λ end. not (is_end_of version end) || nat_lt place end.low) ends

-- the object is clouded, or its latest version may be there and passes
abbrev pub may_pass : Known → ObjectKey → ℕ → (RbacContent → Bool) → Bool
may_pass known key place passes = is_clouded (writes_of known) key place
    || list_any (λ version. is_latest known.versions key place version && (is_not_gone known.ends place version && passes version.content)) known.versions

-- it isn't clouded, and its latest version is there for certain and passes
abbrev pub must_pass : Known → ObjectKey → ℕ → (RbacContent → Bool) → Bool
must_pass known key place passes = not (is_clouded (writes_of known) key place)
    && list_any (λ version. is_latest known.versions key place version && (is_certain known.ends place version && passes version.content)) known.versions

-- the rules of a role grant the request; what can't be read may grant everything or nothing
abbrev pub rules_may_grant : RequestAttrs → RbacContent → Bool
rules_may_grant attrs (Role rules) = grants attrs rules
rules_may_grant attrs (Bound binding) = true
rules_may_grant attrs Unreadable = true

abbrev pub rules_must_grant : RequestAttrs → RbacContent → Bool
rules_must_grant attrs (Role rules) = grants attrs rules
rules_must_grant attrs (Bound binding) = false
rules_must_grant attrs Unreadable = false

abbrev pub role_may_grant : Known → Places → RequestAttrs → ObjectKey → Bool
role_may_grant known places attrs role = may_pass known role (cache_place (kind_of_key role) places) (rules_may_grant attrs)

abbrev pub role_must_grant : Known → Places → RequestAttrs → ObjectKey → Bool
role_must_grant known places attrs role = must_pass known role (cache_place (kind_of_key role) places) (rules_must_grant attrs)

-- a ClusterRoleBinding can't name a Role
abbrev pub is_sound_bound : ObjectKey → Binding → Bool
is_sound_bound key binding = not (is_cluster_binding (kind_of_key key)) || binding.role_is_cluster

-- the binding names the user, and the role that it names grants the request
abbrev pub bound_may_grant : Known → Places → User → RequestAttrs → ObjectKey → RbacContent → Bool
bound_may_grant known places who attrs key (Role rules) = true
bound_may_grant known places who attrs key (Bound binding) =
    not (is_sound_bound key binding) || (list_any (means who) binding.subjects && role_may_grant known places attrs (role_key key binding))
bound_may_grant known places who attrs key Unreadable = true

abbrev pub bound_must_grant : Known → Places → User → RequestAttrs → ObjectKey → RbacContent → Bool
bound_must_grant known places who attrs key (Role rules) = false
bound_must_grant known places who attrs key (Bound binding) =
    is_sound_bound key binding && (list_any (means who) binding.subjects && role_must_grant known places attrs (role_key key binding))
bound_must_grant known places who attrs key Unreadable = false

-- A ClusterRoleBinding grants everywhere, a RoleBinding resource requests in its own namespace, or in any where its
-- namespace isn't known.
abbrev pub reaches : Option Kind → Option (List ℕ) → RequestAttrs → Bool
reaches None namespace attrs = false
reaches (Some RoleKind) namespace attrs = false
reaches (Some ClusterRole) namespace attrs = false
reaches (Some RoleBinding) namespace attrs = attrs.is_resource && takes_namespace namespace attrs.namespace
reaches (Some ClusterRoleBinding) namespace attrs = true

abbrev pub binding_may_grant : Known → Places → User → RequestAttrs → ObjectKey → Bool
binding_may_grant known places who attrs key = reaches (kind_of_key key) (Some key.namespace) attrs
    && may_pass known key (cache_place (kind_of_key key) places) (bound_may_grant known places who attrs key)

abbrev pub binding_must_grant : Known → Places → User → RequestAttrs → ObjectKey → Bool
binding_must_grant known places who attrs key = reaches (kind_of_key key) (Some key.namespace) attrs
    && must_pass known key (cache_place (kind_of_key key) places) (bound_must_grant known places who attrs key)

-- a binding that was created without a known name may be there
abbrev pub nameless_may_grant : Places → RequestAttrs → OpaqueSpan → Bool
nameless_may_grant places attrs span = reaches (nameless_kind span.cover) span.cover.namespace attrs && nat_lt span.low (cache_place (nameless_kind span.cover) places)

-- the key that a cover names
abbrev pub key_named : List ℕ → List ℕ → Option (List ℕ) → CoverName → Option ObjectKey
key_named group resource None name = None
key_named group resource (Some namespace) (Exact name) = Some (record { group = group; resource = resource; namespace = namespace; name = name })
key_named group resource (Some namespace) (Prefix front) = None
key_named group resource (Some namespace) Any = None

abbrev pub named_key : Cover → Option ObjectKey
named_key cover = key_named cover.group cover.resource cover.namespace cover.name

-- the keys that have a version, and those that covers name
abbrev pub known_keys : Known → List ObjectKey
known_keys known = map (λ version. version.key) known.versions ++ filter_map (λ span. named_key span.cover) known.spans

-- a group of the user is allowed everything
abbrev pub is_bypassed : Known → User → Bool
is_bypassed known who = list_any (has_text known.bypass) who.groups

abbrev pub may_allow : Known → Places → User → RequestAttrs → Bool
may_allow known places who attrs = is_bypassed known who
    || (list_any (binding_may_grant known places who attrs) (known_keys known) || list_any (nameless_may_grant places attrs) known.spans)

abbrev pub must_allow : Known → Places → User → RequestAttrs → Bool
must_allow known places who attrs = is_bypassed known who || list_any (binding_must_grant known places who attrs) (known_keys known)

-- caches at these places could give the decision
abbrev pub is_possible : Known → Places → User → RequestAttrs → Decision → Bool
is_possible known places who attrs Allow = may_allow known places who attrs
is_possible known places who attrs Forbid = not (must_allow known places who attrs)
