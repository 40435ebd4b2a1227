-- What is granted is granted in one of three ways.
use Rattle.std.proofs.Common.{◌≡◌, ◌<◌, ◌⊎◌, ⊎_elim, inl, inr, Bool, true, false, Option, Some, None, refl, sym, subst}
use Rattle.base_types.specs.declared.kubernetes.key.Cover.{Cover}
use Rattle.base_types.specs.declared.kubernetes.key.ObjectKey.{ObjectKey}
use Rattle.base_types.specs.declared.verdict.placed.Places.{Places}
use Rattle.base_types.specs.declared.kubernetes.request.RequestAttrs.{RequestAttrs}
use Rattle.base_types.specs.declared.kubernetes.request.User.{User}
use Rattle.rbac_rules.specs.declared.binding.Binding.{Binding}
use Rattle.rbac_timeline.specs.declared.kind.Kind.{Kind}
use Rattle.rbac_timeline.specs.declared.kind.Kind.TheVariants.{Role, ClusterRole, RoleBinding, ClusterRoleBinding}
use Rattle.rbac_timeline.specs.declared.version.RbacContent.{RbacContent}
use Rattle.rbac_timeline.specs.declared.version.RbacVersion.{RbacVersion}
use Rattle.rbac_timeline.specs.declared.way.Way.{Way}
use Rattle.rbac_timeline.specs.declared.way.Way.TheVariants.{ClusterBindings, ClusterRoles, Roles}
use Rattle.rbac_timeline.specs.Choices.{IsBypassed, IsKnownKey}
use Rattle.rbac_timeline.specs.Extents.{IsSubject, MayGrantByRole, MayGrantInWay, MustGrant, MustGrantByRole, MustGrantInWay, bindings_in, by_create, by_key, roles_in}
use Rattle.rbac_timeline.specs.Kinds.{IsBindingOf, IsKeyOf, IsReached, IsReachedBy, IsReachedNameless, everywhere, in_namespace, kind_of, kind_of_key, role_key}
use Rattle.rbac_timeline.specs.Known.{Known}
use Rattle.rbac_timeline.specs.Sound.{AreSound}
use Rattle.rbac_timeline.specs.States.{By, Everything, IsBindingState, IsGranted, Nothing, State}
use Rattle.rbac_timeline.specs.Deciding.{cache_place}
use Rattle.rbac_timeline.proofs.Choosing.{IsGranted-weaker, MayAllow, MayGrantBy, MustAllow, MustGrantBy, may_by_binding, may_by_group, may_by_nameless, must_by_binding, must_by_group, place_of_binding}
use Rattle.rbac_timeline.proofs.Contents.{one_binding}
use Rattle.rbac_timeline.proofs.Extremes.{least_state, one_latest, read_binding}

-- a way at the places of its caches
abbrev pub MayInWay : Known → Places → User → RequestAttrs → Way → Type 0
MayInWay known places who attrs way = MayGrantInWay known way (cache_place (Some (roles_in way)) places) (cache_place (Some (bindings_in way)) places) who attrs

abbrev pub MustInWay : Known → Places → User → RequestAttrs → Way → Type 0
MustInWay known places who attrs way = MustGrantInWay known way (cache_place (Some (roles_in way)) places) (cache_place (Some (bindings_in way)) places) who attrs

pub may_from_way : (known : Known) (places : Places) (who : User) (attrs : RequestAttrs) (way : Way) → MayInWay known places who attrs way → MayAllow known places who attrs
may_from_way known places who attrs way (by_key key of may) =
    may_by_binding key of.is_known of.reached (
      may.0,
      subst (λ k. IsBindingState known key (cache_place k places) may.0) (sym of.of_kind) may.1,
      IsGranted-weaker _ (MayGrantBy known places key who attrs) may.0
          (λ binding grants. (grants.0.matches, subst (λ k. MayGrantByRole known (role_key key binding) (cache_place k places) attrs) (sym grants.0.role_kind) grants.1)) may.2,
    )
may_from_way known places who attrs way (by_create create) =
    may_by_nameless create.number create.span create.found create.reached (subst (λ k. create.span.low < cache_place k places) (sym create.of_kind) create.begun)

pub must_from_way : (known : Known) (places : Places) (who : User) (attrs : RequestAttrs) (way : Way) → MustInWay known places who attrs way → MustAllow known places who attrs
must_from_way known places who attrs way in_way =
    let key = in_way.key in
    must_by_binding key in_way.way_of.is_known in_way.way_of.reached (λ state possible.
    IsGranted-weaker _ (MustGrantBy known places key who attrs) state
    (λ binding grants. (grants.0.matches, subst (λ k. MustGrantByRole known (role_key key binding) (cache_place k places) attrs) (sym grants.0.role_kind) grants.1))
    (in_way.must state (subst (λ k. IsBindingState known key (cache_place k places) state) in_way.way_of.of_kind possible)))

-- the kind of the role that a binding names
kind_by : (cluster : Bool) (key : ObjectKey) (binding : Binding) → binding.role_is_cluster ≡ cluster → IsKeyOf ClusterRole (role_key key binding) ⊎ IsKeyOf Role (role_key key binding)
kind_by true key binding is = inl (rw is refl)
kind_by false key binding is = inr (rw is refl)

role_kind_of : (key : ObjectKey) (binding : Binding) → IsKeyOf ClusterRole (role_key key binding) ⊎ IsKeyOf Role (role_key key binding)
role_kind_of key binding = kind_by binding.role_is_cluster key binding refl

kind_of_cluster : (key : ObjectKey) (binding : Binding) → binding.role_is_cluster ≡ true → IsKeyOf ClusterRole (role_key key binding)
kind_of_cluster key binding is = rw is refl

-- one of two kinds
binding_kind : (kind : Option Kind) (key : ObjectKey) (attrs : RequestAttrs) → kind_of_key key ≡ kind → IsReachedBy kind key attrs → IsKeyOf RoleBinding key ⊎ IsKeyOf ClusterRoleBinding key
binding_kind None key attrs is reached = absurd reached
binding_kind (Some Role) key attrs is reached = absurd reached
binding_kind (Some ClusterRole) key attrs is reached = absurd reached
binding_kind (Some RoleBinding) key attrs is reached = inl is
binding_kind (Some ClusterRoleBinding) key attrs is reached = inr is

-- the way of a binding's kind and of its role's
way_of_binding : (key : ObjectKey) (binding : Binding) (content : RbacContent) → IsBindingOf key content binding → IsKeyOf RoleBinding key ⊎ IsKeyOf ClusterRoleBinding key
    → (way : Way) × IsKeyOf (bindings_in way) key × IsKeyOf (roles_in way) (role_key key binding)
way_of_binding key binding content read (inl plain) = ⊎_elim (λ cluster. (ClusterRoles, plain, cluster)) (λ role. (Roles, plain, role)) (role_kind_of key binding)
way_of_binding key binding content read (inr cluster) = (ClusterBindings, cluster, kind_of_cluster key binding (read.1 cluster))

some_way : (key : ObjectKey) → IsKeyOf RoleBinding key ⊎ IsKeyOf ClusterRoleBinding key → (way : Way) × IsKeyOf (bindings_in way) key
some_way key (inl plain) = (Roles, plain)
some_way key (inr cluster) = (ClusterBindings, cluster)

may_by_state : (known : Known) (places : Places) (who : User) (attrs : RequestAttrs) (key : ObjectKey) → IsKnownKey known key → IsReached key attrs → IsKeyOf RoleBinding key ⊎ IsKeyOf ClusterRoleBinding key
    → (state : State Binding) → IsBindingState known key (place_of_binding places key) state → IsGranted (MayGrantBy known places key who attrs) state → (way : Way) × MayInWay known places who attrs way
may_by_state known places who attrs key is_known reached kind Nothing possible granted = absurd granted
may_by_state known places who attrs key is_known reached kind (By binding) possible granted =
    let found = way_of_binding key binding possible.1.0.content possible.1.2 kind in (
      found.0,
      by_key key (record { is_known = is_known; of_kind = found.1; reached = reached }) (
        By binding,
        subst (λ k. IsBindingState known key (cache_place k places) (By binding)) found.1 possible,
        (record { role_kind = found.2; matches = granted.0 }, subst (λ k. MayGrantByRole known (role_key key binding) (cache_place k places) attrs) found.2 granted.1),
      ),
    )
may_by_state known places who attrs key is_known reached kind Everything possible granted =
    let found = some_way key kind in (
      found.0,
      by_key key (record { is_known = is_known; of_kind = found.1; reached = reached })
          (Everything, subst (λ k. IsBindingState known key (cache_place k places) Everything) found.1 possible, tt),
    )

nameless_kind : (cover : Cover) (attrs : RequestAttrs) → IsReachedNameless cover attrs → (way : Way) × (kind_of cover.group cover.resource ≡ Some (bindings_in way))
nameless_kind cover attrs (everywhere create) = (ClusterBindings, create.of_kind)
nameless_kind cover attrs (in_namespace create resource namespace) = (Roles, create.of_kind)

pub way_from_may : (known : Known) (places : Places) (who : User) (attrs : RequestAttrs) → MayAllow known places who attrs
    → IsBypassed known who ⊎ ((way : Way) × MayInWay known places who attrs way)
way_from_may known places who attrs (may_by_group bypassed) = inl bypassed
way_from_may known places who attrs (may_by_binding key is_known reached may) =
    inr (may_by_state known places who attrs key is_known reached (binding_kind (kind_of_key key) key attrs refl reached) may.0 may.1 may.2)
way_from_may known places who attrs (may_by_nameless number span found reached begun) =
    let way = nameless_kind span.cover attrs reached in
    inr (way.0, by_create (record { number = number; span = span; found = found; of_kind = way.1; reached = reached; begun = subst (λ k. span.low < cache_place k places) way.1 begun }))

-- where one state is as the binding says, every other that is possible is so too, or grants more
must_by_state : (known : Known) → AreSound known.versions known.ends → (places : Places) (who : User) (attrs : RequestAttrs) (key : ObjectKey) → IsKnownKey known key → IsReached key attrs
    → IsKeyOf RoleBinding key ⊎ IsKeyOf ClusterRoleBinding key → MustGrant (IsBindingOf key) known key (place_of_binding places key) (MustGrantBy known places key who attrs)
    → (state : State Binding) → IsBindingState known key (place_of_binding places key) state → (way : Way) × MustInWay known places who attrs way
must_by_state known sound places who attrs key is_known reached kind must Nothing possible = absurd (must Nothing possible)
must_by_state known sound places who attrs key is_known reached kind must Everything possible = absurd (must Nothing (inl possible))
must_by_state known sound places who attrs key is_known reached kind must (By binding) possible =
    let found = way_of_binding key binding possible.1.0.content possible.1.2 kind in (
      found.0,
      record {
        key = key;
        way_of = record { is_known = is_known; of_kind = found.1; reached = reached };
        must = λ state is. in_way found.0 found.1 found.2 state (subst (λ k. IsBindingState known key (cache_place k places) state) (sym found.1) is);
      },
    )
  where
    in_way : (way : Way) → IsKeyOf (bindings_in way) key → IsKeyOf (roles_in way) (role_key key binding) → (state : State Binding) → IsBindingState known key (place_of_binding places key) state
        → IsGranted (λ b. IsSubject way key who b × MustGrantByRole known (role_key key b) (cache_place (Some (roles_in way)) places) attrs) state
    in_way way of_kind role_kind Nothing is = absurd (must Nothing is)
    in_way way of_kind role_kind Everything is = tt
    in_way way of_kind role_kind (By other) is =
        let one = one_latest known.versions sound.rising key (place_of_binding places key) is.1.0 possible.1.0 is.1.1.latest possible.1.1.latest in
        let same : other ≡ binding = one_binding key possible.1.0.content binding possible.1.2 other (subst (λ (v : RbacVersion). IsBindingOf key v.content other) one is.1.2) in
        let kind_other : IsKeyOf (roles_in way) (role_key key other) = subst (λ b. IsKeyOf (roles_in way) (role_key key b)) (sym same) role_kind in
        let granted = must (By other) is in
        (record { role_kind = kind_other; matches = granted.0 }, subst (λ k. MustGrantByRole known (role_key key other) (cache_place k places) attrs) kind_other granted.1)

pub way_from_must : (known : Known) → AreSound known.versions known.ends → (places : Places) (who : User) (attrs : RequestAttrs) → MustAllow known places who attrs
    → IsBypassed known who ⊎ ((way : Way) × MustInWay known places who attrs way)
way_from_must known sound places who attrs (must_by_group bypassed) = inl bypassed
way_from_must known sound places who attrs (must_by_binding key is_known reached must) =
    let least = least_state (IsBindingOf key) known sound key (place_of_binding places key) (read_binding key) in
    inr (must_by_state known sound places who attrs key is_known reached (binding_kind (kind_of_key key) key attrs refl reached) must least.state least.possible)
