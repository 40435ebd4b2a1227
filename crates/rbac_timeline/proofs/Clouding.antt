-- Bindings of which nothing is known somewhere are among those that are looked at.
use Rattle.std.proofs.Common.{◌≡◌, ℕ, ◌≤◌, ⊎_elim, inl, inr, true, false, Option, Some, None, refl, sym, subst, ap}
use Rattle.std.specs.List.{Contains}
use Rattle.std.proofs.lemmas.Bool.{cases_Bool}
use Rattle.base_types.specs.declared.kubernetes.key.ObjectKey.{ObjectKey}
use Rattle.base_types.specs.declared.kubernetes.request.RequestAttrs.{RequestAttrs}
use Rattle.rbac_rules.specs.declared.binding.Binding.{Binding}
use Rattle.rbac_timeline.specs.declared.kind.Kind.{Kind}
use Rattle.rbac_timeline.specs.declared.kind.Kind.TheVariants.{Role as RoleKind, ClusterRole, RoleBinding, ClusterRoleBinding}
use Rattle.rbac_timeline.specs.declared.unsure.Unsure.{Unsure}
use Rattle.rbac_timeline.specs.declared.version.RbacContent.{RbacContent}
use Rattle.rbac_timeline.specs.declared.version.RbacContent.TheVariants.{Bound, Role, Unreadable}
use Rattle.rbac_timeline.specs.declared.version.RbacVersion.{RbacVersion}
use Rattle.rbac_timeline.specs.declared.way.Way.{Way}
use Rattle.rbac_timeline.specs.declared.way.Way.TheVariants.{ClusterBindings, ClusterRoles, Roles}
use Rattle.rbac_timeline.specs.Choices.{IsKnownKey, has_version, is_named}
use Rattle.rbac_timeline.specs.Extents.{bindings_in}
use Rattle.rbac_timeline.specs.Kept.{IsKnownUnsure}
use Rattle.rbac_timeline.specs.Kinds.{IsBindingOf, IsKeyOf, IsReached, IsReachedBy, can_bind, is_binding, is_readable, kind_of_key}
use Rattle.rbac_timeline.specs.Known.{Known, writes_of}
use Rattle.rbac_timeline.specs.States.{IsUnsure}
use Rattle.rbac_timeline.specs.Unsure.{AreUnsure, IsCloudedSomewhere, last_place, unsure_keys}

binding_from_way : (way : Way) (kind : Option Kind) → kind ≡ Some (bindings_in way) → is_binding kind ≡ true
binding_from_way Roles kind is = ap is_binding is
binding_from_way ClusterRoles kind is = ap is_binding is
binding_from_way ClusterBindings kind is = ap is_binding is

binding_reads : (kind : Option Kind) (key : ObjectKey) (binding : Binding) → kind_of_key key ≡ kind → can_bind kind binding.role_is_cluster ≡ true → IsBindingOf key (Bound binding) binding
binding_reads None key binding is can = (refl, λ cluster. absurd (cc))
binding_reads (Some RoleKind) key binding is can = (refl, λ cluster. absurd (cc))
binding_reads (Some ClusterRole) key binding is can = (refl, λ cluster. absurd (cc))
binding_reads (Some RoleBinding) key binding is can = (refl, λ cluster. absurd (cc))
binding_reads (Some ClusterRoleBinding) key binding is can = (refl, λ cluster. can)

-- a version that no binding is read of isn't readable
not_readable : (key : ObjectKey) (content : RbacContent) → ((x : Binding) → IsBindingOf key content x → ⊥) → is_readable key content ≡ false
not_readable key (Role rules) unread = refl
not_readable key (Bound binding) unread = ⊎_elim
    (λ can. absurd (unread binding (binding_reads (kind_of_key key) key binding refl can)))
    (λ not. not)
    (cases_Bool (can_bind (kind_of_key key) binding.role_is_cluster))
not_readable key Unreadable unread = refl

module _ (known : Known) (unsure : Unsure) (are : AreUnsure (writes_of known) known.versions known.spans unsure) where
  known_key : (key : ObjectKey) → Contains are.keys key → IsKnownKey known key
  known_key key among = ⊎_elim
      (λ by. has_version by.1 (by.0, by.2, by.3) by.4.1)
      (λ by. is_named by.1 (by.0, by.2, by.3) by.4)
      (are.among key among)

  -- those that are looked at are known
  pub known_from_unsure : (way : Way) (attrs : RequestAttrs) (key : ObjectKey) → Contains (unsure_keys unsure (bindings_in way) attrs) key → IsKnownKey known key
  known_from_unsure Roles attrs key among = known_key key (are.found.in_namespace attrs.namespace key among)
  known_from_unsure ClusterRoles attrs key among = known_key key (are.found.in_namespace attrs.namespace key among)
  known_from_unsure ClusterBindings attrs key among = known_key key (are.found.in_cluster key among)

  by_version : (way : Way) (key : ObjectKey) (place : ℕ) → place ≤ last_place → IsKeyOf (bindings_in way) key → (version : RbacVersion) → Contains known.versions version → version.key ≡ key
      → IsUnsure (IsBindingOf key) known key place → Contains are.keys key
  by_version way key place bound kind version among of_key (inl clouded) =
      are.of_version version key among (
        (
          subst (λ k. is_binding (kind_of_key k) ≡ true) (sym of_key) (binding_from_way way (kind_of_key key) kind),
          inr (subst (λ k. IsCloudedSomewhere (writes_of known) k) (sym of_key) (place, bound, clouded)),
        ),
        of_key,
      )
  by_version way key place bound kind version among of_key (inr unread) =
      let other = unread.0 in
      let latest = unread.1.latest in
      are.of_version other key latest.known (
        (
          subst (λ k. is_binding (kind_of_key k) ≡ true) (sym latest.of_key) (binding_from_way way (kind_of_key key) kind),
          inl (subst (λ k. is_readable k other.content ≡ false) (sym latest.of_key) (not_readable key other.content unread.2)),
        ),
        latest.of_key,
      )

  by_known : (way : Way) (key : ObjectKey) (place : ℕ) → place ≤ last_place → IsKeyOf (bindings_in way) key → IsKnownKey known key → IsUnsure (IsBindingOf key) known key place → Contains are.keys key
  by_known way key place bound kind (has_version version among of_key) is_unsure = by_version way key place bound kind version among of_key is_unsure
  by_known way key place bound kind (is_named span among names) is_unsure = are.of_span span key among names

  in_list : (way : Way) (attrs : RequestAttrs) (key : ObjectKey) → IsKeyOf (bindings_in way) key → IsReached key attrs → Contains are.keys key → Contains (unsure_keys unsure (bindings_in way) attrs) key
  in_list Roles attrs key kind reached among =
      let same = (subst (λ k. IsReachedBy k key attrs) kind reached).1 in
      subst (λ n. Contains (unsure_keys unsure RoleBinding (record attrs { namespace = n })) key) (sym same) (are.found.found key among kind)
  in_list ClusterRoles attrs key kind reached among =
      let same = (subst (λ k. IsReachedBy k key attrs) kind reached).1 in
      subst (λ n. Contains (unsure_keys unsure RoleBinding (record attrs { namespace = n })) key) (sym same) (are.found.found key among kind)
  in_list ClusterBindings attrs key kind reached among = are.found.found_in_cluster key among kind

  -- and one of which nothing is known is looked at
  pub found_unsure : (way : Way) (attrs : RequestAttrs) (place : ℕ) (key : ObjectKey) → place ≤ last_place → IsKeyOf (bindings_in way) key → IsReached key attrs → IsKnownUnsure known place key
      → Contains (unsure_keys unsure (bindings_in way) attrs) key
  found_unsure way attrs place key bound kind reached is = in_list way attrs key kind reached (by_known way key place bound kind is.0 is.1)
