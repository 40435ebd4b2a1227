-- Bindings that may be clouded or unreadable somewhere are found by their namespace, or in one list.
use Rattle.std.proofs.Common.{◌≡◌, ℕ, ◌≤◌, ◌↔◌, ⊎_elim, inl, inr, true, is_some, Option, Some, None, List, [], ◌∷◌, ◌++◌, refl, sym, ◌∙◌, subst, ap, arith}
use Rattle.std.specs.List.{Contains}
use Rattle.std.specs.Option.{IfNone, IfSome}
use Rattle.std.proofs.lemmas.Bool.{false≢true}
use Rattle.std.proofs.lemmas.List.Elements.{Contains-append_cases, Contains-append_left, Contains-append_right, Contains-push, Contains-push_cases}
use Rattle.std.specs.List.Sorted.{IsPermutation}
use Rattle.std.proofs.lemmas.List.Sorted.{Contains-permutation, IsPermutation-sym}
use Rattle.base_types.specs.Covers.{NamesExactly}
use Rattle.base_types.specs.declared.kubernetes.key.Cover.{Cover}
use Rattle.base_types.specs.declared.kubernetes.key.CoverName.{CoverName}
use Rattle.base_types.specs.declared.kubernetes.key.CoverName.TheVariants.{Any as AnyName, Exact, Prefix}
use Rattle.base_types.specs.declared.kubernetes.key.ObjectKey.{ObjectKey}
use Rattle.base_types.proofs.KeyLemmas.{key_from_parts}
use Rattle.clouds.specs.FirstPlace.{HoldsNowhere, IsLeastPlace}
use Rattle.clouds.specs.Items.{AddsAt, items_at}
use Rattle.clouds.specs.Kept.{text_order}
use Rattle.clouds.specs.Writes.{Writes}
use Rattle.clouds.specs.declared.span.OpaqueSpan.{OpaqueSpan}
use Rattle.rbac_timeline.specs.declared.kind.Kind.TheVariants.{ClusterRoleBinding, RoleBinding}
use Rattle.rbac_timeline.specs.declared.unsure.Unsure.{Unsure}
use Rattle.rbac_timeline.specs.declared.version.RbacVersion.{RbacVersion}
use Rattle.rbac_timeline.specs.Indexed.{ByText, HasOneMore}
use Rattle.rbac_timeline.specs.Kinds.{IsKeyOf}
use Rattle.rbac_timeline.specs.Unsure.{AreFound, AreGathered, AreUnsure, GivesNamed, GivesUnsure, last_place}
use Rattle.rbac_timeline.proofs.Lows.{same_namespace}

pub somewhere_from_first : (P : ℕ → Type 0) (first : Option ℕ) → IfSome first (IsLeastPlace P 0 last_place) → IfNone first (HoldsNowhere P 0 last_place)
    → (is_some first ≡ true) ↔ ((place : ℕ) × (place ≤ last_place) × P place)
somewhere_from_first P None some none = ((λ no. absurd (false≢true no)), (λ found. absurd (none found.0 (omega arith) found.1 found.2)))
somewhere_from_first P (Some place) some none = ((λ yes. (place, some.upto_high, some.here)), (λ found. refl))

-- a key has one kind
two_kinds : (key other : ObjectKey) → key ≡ other → IsKeyOf RoleBinding key → IsKeyOf ClusterRoleBinding other → ⊥
two_kinds key other is plain cluster = let kind : IsKeyOf ClusterRoleBinding key = subst (λ k. IsKeyOf ClusterRoleBinding k) (sym is) cluster in cc

module _ (unsure : Unsure) (keys : List ObjectKey) (key : ObjectKey) (are : AreFound unsure keys) where
  pub AreFound-namespace : (by_namespace : ByText) → IsKeyOf RoleBinding key → AddsAt text_order unsure.by_namespace by_namespace key.namespace key
      → AreFound (record unsure { by_namespace = by_namespace }) (keys ++ key ∷ [])
  AreFound-namespace by_namespace kind adds = record {
    in_namespace = λ namespace k among. ⊎_elim
        (λ before. Contains-append_left keys (key ∷ []) k (are.in_namespace namespace k before))
        (λ is. subst (λ x. Contains (keys ++ key ∷ []) x) (sym is.1) (Contains-push keys key))
        (adds.only namespace k among);
    in_cluster = λ k among. Contains-append_left keys (key ∷ []) k (are.in_cluster k among);
    found = λ k among plain. ⊎_elim
        (λ before. adds.kept k.namespace k (are.found k before plain))
        (λ is. subst (λ (x : ObjectKey). Contains (items_at text_order by_namespace x.namespace) x) is adds.added)
        (Contains-push_cases keys key k among);
    found_in_cluster = λ k among cluster. ⊎_elim
        (λ before. are.found_in_cluster k before cluster)
        (λ is. absurd (two_kinds key k is kind cluster))
        (Contains-push_cases keys key k among);
  }

  pub AreFound-cluster : (cluster : List ObjectKey) → IsKeyOf ClusterRoleBinding key → HasOneMore unsure.cluster_bindings cluster key
      → AreFound (record unsure { cluster_bindings = cluster }) (keys ++ key ∷ [])
  AreFound-cluster cluster kind adds = record {
    in_namespace = λ namespace k among. Contains-append_left keys (key ∷ []) k (are.in_namespace namespace k among);
    in_cluster = λ k among. ⊎_elim
        (λ before. Contains-append_left keys (key ∷ []) k (are.in_cluster k before))
        (λ is. subst (λ x. Contains (keys ++ key ∷ []) x) (sym is) (Contains-push keys key))
        (adds.only k among);
    found = λ k among plain. ⊎_elim
        (λ before. are.found k before plain)
        (λ is. absurd (two_kinds k key (sym is) plain kind))
        (Contains-push_cases keys key k among);
    found_in_cluster = λ k among of_cluster. ⊎_elim
        (λ before. adds.kept k (are.found_in_cluster k before of_cluster))
        (λ is. subst (λ x. Contains cluster x) is adds.added)
        (Contains-push_cases keys key k among);
  }

  pub AreFound-other : (IsKeyOf RoleBinding key → ⊥) → (IsKeyOf ClusterRoleBinding key → ⊥) → AreFound unsure (keys ++ key ∷ [])
  AreFound-other no_plain no_cluster = record {
    in_namespace = λ namespace k among. Contains-append_left keys (key ∷ []) k (are.in_namespace namespace k among);
    in_cluster = λ k among. Contains-append_left keys (key ∷ []) k (are.in_cluster k among);
    found = λ k among plain. ⊎_elim
        (λ before. are.found k before plain)
        (λ is. absurd (no_plain (subst (λ x. IsKeyOf RoleBinding x) (sym is) plain)))
        (Contains-push_cases keys key k among);
    found_in_cluster = λ k among cluster. ⊎_elim
        (λ before. are.found_in_cluster k before cluster)
        (λ is. absurd (no_cluster (subst (λ x. IsKeyOf ClusterRoleBinding x) (sym is) cluster)))
        (Contains-push_cases keys key k among);
  }

pub AreUnsure-both : (writes : Writes) (versions : List RbacVersion) (spans : List OpaqueSpan) (unsure : Unsure) (of_versions of_spans order : List ObjectKey)
    → AreGathered (GivesUnsure writes) versions of_versions → AreGathered GivesNamed spans of_spans → IsPermutation (of_versions ++ of_spans) order → AreFound unsure order
    → AreUnsure writes versions spans unsure
AreUnsure-both writes versions spans unsure of_versions of_spans order by_versions by_spans moved found = record {
  keys = order;
  found = found;
  among = λ key among. ⊎_elim
      (λ left. inl (by_versions.among key left))
      (λ right. inr (by_spans.among key right))
      (Contains-append_cases of_versions of_spans key (Contains-permutation order (of_versions ++ of_spans) key (IsPermutation-sym (of_versions ++ of_spans) order moved) among));
  of_version = λ version key among gives.
      Contains-permutation (of_versions ++ of_spans) order key moved (Contains-append_left of_versions of_spans key (by_versions.full version key among gives));
  of_span = λ span key among gives.
      Contains-permutation (of_versions ++ of_spans) order key moved (Contains-append_right of_versions of_spans key (by_spans.full span key among gives));
}

name_of : CoverName → List ℕ
name_of (Exact name) = name
name_of (Prefix front) = []
name_of AnyName = []

-- a cover names one key
pub one_named : (cover : Cover) (a b : ObjectKey) → NamesExactly cover a → NamesExactly cover b → b ≡ a
unfolding name_of
one_named cover a b names_a names_b = key_from_parts b a
    (names_b.group ∙ sym names_a.group)
    (names_b.resource ∙ sym names_a.resource)
    (same_namespace cover.namespace b.namespace a.namespace names_b.namespace names_a.namespace)
    (ap name_of (sym names_b.name ∙ names_a.name))
