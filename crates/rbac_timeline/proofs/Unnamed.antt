-- From the places where unnamed bindings begin to what they may grant.
use Rattle.std.proofs.Common.{◌≡◌, ℕ, ◌<◌, ◌↔◌, ⊎_elim, Bool, true, false, ◌&&◌, ◌||◌, cond, Option, Some, None, List, length, get_or, refl, sym, ◌∙◌, subst, ap}
use Rattle.std.specs.BTreeMap.{get}
use Rattle.std.specs.List.{slice_get}
use Rattle.std.specs.Option.{MatchOption, unwrap_or}
use Rattle.std.proofs.lemmas.Bool.{and_from, and_parts, or_cases, or_left, or_right}
use Rattle.std.proofs.lemmas.Option.{slice_get-get_or, slice_get_within}
use Rattle.base_types.specs.declared.kubernetes.key.Cover.{Cover}
use Rattle.base_types.specs.declared.kubernetes.key.CoverName.{CoverName}
use Rattle.base_types.specs.declared.kubernetes.key.CoverName.TheVariants.{Any as AnyName, Exact, Prefix}
use Rattle.base_types.specs.declared.kubernetes.request.RequestAttrs.{RequestAttrs}
use Rattle.clouds.specs.Kept.{text_order}
use Rattle.clouds.specs.declared.span.OpaqueSpan.{OpaqueSpan}
use Rattle.rbac_timeline.specs.declared.kind.Kind.{Kind}
use Rattle.rbac_timeline.specs.declared.kind.Kind.TheVariants.{ClusterRoleBinding, RoleBinding}
use Rattle.rbac_timeline.specs.declared.nameless.Nameless.{Nameless}
use Rattle.rbac_timeline.specs.declared.way.Way.{Way}
use Rattle.rbac_timeline.specs.declared.way.Way.TheVariants.{ClusterBindings, ClusterRoles, Roles}
use Rattle.rbac_timeline.specs.Extents.{MayGrantNameless, bindings_in}
use Rattle.rbac_timeline.specs.Kinds.{IsNameless, IsNamelessCreate, IsReachedNameless, everywhere, in_namespace, is_nameless, kind_of, nameless_kind}
use Rattle.rbac_timeline.specs.Known.{Known}
use Rattle.rbac_timeline.specs.Nameless.{AreLows, is_below, may_grant}

nameless_from : (name : CoverName) → is_nameless name ≡ true → IsNameless name
nameless_from (Exact name) is = absurd (cc)
nameless_from (Prefix front) is = tt
nameless_from AnyName is = tt

test_from_nameless : (name : CoverName) → IsNameless name → is_nameless name ≡ true
test_from_nameless (Exact name) is = absurd is
test_from_nameless (Prefix front) is = refl
test_from_nameless AnyName is = refl

chosen : (test : Bool) (o : Option Kind) (kind : Kind) → cond test o None ≡ Some kind → (test ≡ true) × (o ≡ Some kind)
chosen true o kind is = (refl, is)
chosen false o kind is = absurd (cc)

chosen_back : (test : Bool) (o : Option Kind) (kind : Kind) → test ≡ true → o ≡ Some kind → cond test o None ≡ Some kind
chosen_back true o kind passed is = is
chosen_back false o kind passed is = absurd (cc)

pub create_from : (cover : Cover) (kind : Kind) → nameless_kind cover ≡ Some kind → IsNamelessCreate kind cover
create_from cover kind is =
    let parts = chosen (cover.creates && is_nameless cover.name) (kind_of cover.group cover.resource) kind is in
    let both = and_parts cover.creates (is_nameless cover.name) parts.0 in
    record { of_kind = parts.1; creates = both.0; nameless = nameless_from cover.name both.1 }

pub kind_from : (cover : Cover) (kind : Kind) → IsNamelessCreate kind cover → nameless_kind cover ≡ Some kind
kind_from cover kind create =
    chosen_back (cover.creates && is_nameless cover.name) (kind_of cover.group cover.resource) kind (and_from cover.creates (is_nameless cover.name) create.creates (test_from_nameless cover.name create.nameless)) create.of_kind

pub get_from : {X : Type 0} (xs : List X) (k : ℕ) (x : X) → k < length xs → get_or xs k x ≡ x → slice_get xs k ≡ Some x
get_from {X} xs k x within is = slice_get-get_or xs k x within ∙ ap (λ (y : X). Some y) is

pub among_from : {X : Type 0} (xs : List X) (n : ℕ) (x : X) → slice_get xs n ≡ Some x → (n < length xs) × (get_or xs n x ≡ x)
among_from xs n x found =
    let within = slice_get_within xs n x found in
    (within, ap (λ o. unwrap_or o x) (sym (slice_get-get_or xs n x within) ∙ found))

module _ (known : Known) (nameless : Nameless) (are : AreLows nameless known.spans) (place : ℕ) (attrs : RequestAttrs) where
  reached_in : (cover : Cover) (namespace : Option (List ℕ)) → cover.namespace ≡ namespace → nameless_kind cover ≡ Some RoleBinding → attrs.is_resource ≡ true
      → MatchOption namespace (Unit {0}) (λ n. attrs.namespace ≡ n) → IsReachedNameless cover attrs
  reached_in cover namespace is kind resource fits =
      in_namespace (create_from cover RoleBinding kind) resource (subst (λ o. MatchOption o (Unit {0}) (λ n. attrs.namespace ≡ n)) (sym is) fits)

  -- a test of a RoleBinding
  abbrev plain_test : Bool
  plain_test = is_below nameless.anywhere place || is_below (get text_order nameless.by_namespace attrs.namespace) place

  plain_may : (way : Way) → bindings_in way ≡ RoleBinding → attrs.is_resource ≡ true → plain_test ≡ true → MayGrantNameless known way place attrs
  plain_may way kind resource passed = ⊎_elim
      (λ first.
      let any = (are.anywhere place).0 first in
      record {
        number = any.0;
        span = any.1;
        found = get_from known.spans any.0 any.1 any.2 any.3;
        of_kind = (create_from any.1.cover RoleBinding any.4.0.0).of_kind ∙ ap (λ k. Some k) (sym kind);
        reached = reached_in any.1.cover None any.4.0.1 any.4.0.0 resource tt;
        begun = any.4.1;
      })
      (λ second.
      let any = (are.in_namespace attrs.namespace place).0 second in
      record {
        number = any.0;
        span = any.1;
        found = get_from known.spans any.0 any.1 any.2 any.3;
        of_kind = (create_from any.1.cover RoleBinding any.4.0.0).of_kind ∙ ap (λ k. Some k) (sym kind);
        reached = reached_in any.1.cover (Some attrs.namespace) any.4.0.1 any.4.0.0 resource refl;
        begun = any.4.1;
      })
      (or_cases (is_below nameless.anywhere place) (is_below (get text_order nameless.by_namespace attrs.namespace) place) passed)

  by_namespace : (cover : Cover) (number : ℕ) (span : OpaqueSpan) → slice_get known.spans number ≡ Some span → span.cover ≡ cover → nameless_kind span.cover ≡ Some RoleBinding → span.low < place
      → (namespace : Option (List ℕ)) → span.cover.namespace ≡ namespace → MatchOption namespace (Unit {0}) (λ n. attrs.namespace ≡ n) → plain_test ≡ true
  by_namespace cover number span found is kind begun None none fits =
      let there = among_from known.spans number span found in
      or_left (is_below nameless.anywhere place) (is_below (get text_order nameless.by_namespace attrs.namespace) place)
      ((are.anywhere place).1 (number, span, there.0, there.1, ((kind, none), begun)))
  by_namespace cover number span found is kind begun (Some namespace) some fits =
      let there = among_from known.spans number span found in
      or_right (is_below nameless.anywhere place) (is_below (get text_order nameless.by_namespace attrs.namespace) place)
      ((are.in_namespace attrs.namespace place).1 (number, span, there.0, there.1, ((kind, some ∙ ap (λ n. Some n) (sym fits)), begun)))

  plain_from : (number : ℕ) (span : OpaqueSpan) → slice_get known.spans number ≡ Some span → kind_of span.cover.group span.cover.resource ≡ Some RoleBinding → span.low < place → IsReachedNameless span.cover attrs
      → (attrs.is_resource ≡ true) × (plain_test ≡ true)
  plain_from number span found kind begun (everywhere create) = absurd (let other = create.of_kind in cc)
  plain_from number span found kind begun (in_namespace create resource fits) =
      (resource, by_namespace span.cover number span found refl (kind_from span.cover RoleBinding create) begun span.cover.namespace refl fits)

  cluster_may : is_below nameless.cluster_bindings place ≡ true → MayGrantNameless known ClusterBindings place attrs
  cluster_may passed =
      let any = (are.in_cluster place).0 passed in
      let create = create_from any.1.cover ClusterRoleBinding any.4.0 in
      record {
        number = any.0;
        span = any.1;
        found = get_from known.spans any.0 any.1 any.2 any.3;
        of_kind = create.of_kind;
        reached = everywhere create;
        begun = any.4.1;
      }

  cluster_from : (number : ℕ) (span : OpaqueSpan) → slice_get known.spans number ≡ Some span → kind_of span.cover.group span.cover.resource ≡ Some ClusterRoleBinding → span.low < place
      → IsReachedNameless span.cover attrs → is_below nameless.cluster_bindings place ≡ true
  cluster_from number span found kind begun (everywhere create) =
      let there = among_from known.spans number span found in
      (are.in_cluster place).1 (number, span, there.0, there.1, (kind_from span.cover ClusterRoleBinding create, begun))
  cluster_from number span found kind begun (in_namespace create resource fits) = absurd (let other = create.of_kind in cc)

  pub may_unnamed : (way : Way) → (may_grant nameless (bindings_in way) place attrs ≡ true) ↔ MayGrantNameless known way place attrs
  may_unnamed Roles = (
    (λ passed. let both = and_parts attrs.is_resource plain_test passed in plain_may Roles refl both.0 both.1),
    (λ may. let both = plain_from may.number may.span may.found may.of_kind may.begun may.reached in and_from attrs.is_resource plain_test both.0 both.1),
  )
  may_unnamed ClusterRoles = (
    (λ passed. let both = and_parts attrs.is_resource plain_test passed in plain_may ClusterRoles refl both.0 both.1),
    (λ may. let both = plain_from may.number may.span may.found may.of_kind may.begun may.reached in and_from attrs.is_resource plain_test both.0 both.1),
  )
  may_unnamed ClusterBindings = (cluster_may, (λ may. cluster_from may.number may.span may.found may.of_kind may.begun may.reached))
