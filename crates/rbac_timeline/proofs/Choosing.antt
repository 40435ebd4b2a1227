-- A decision is possible by a choice exactly where the states that grant most, or least, make it so.
use Rattle.std.proofs.Common.{◌≡◌, ℕ, ◌<◌, Bool, true, false, ltb, Option, Some, None, refl, sym, ◌∙◌, subst, ap}
use Rattle.std.specs.List.{Any, slice_get}
use Rattle.std.proofs.lemmas.Bool.{false≢true, lt-ltb, ltb-true}
use Rattle.base_types.specs.declared.kubernetes.key.ObjectKey.{ObjectKey}
use Rattle.base_types.specs.declared.verdict.placed.Places.{Places}
use Rattle.base_types.specs.declared.kubernetes.request.Decision.TheVariants.{Allow, Forbid}
use Rattle.base_types.specs.declared.kubernetes.request.RequestAttrs.{RequestAttrs}
use Rattle.base_types.specs.declared.kubernetes.request.User.{User}
use Rattle.clouds.specs.declared.span.OpaqueSpan.{OpaqueSpan}
use Rattle.rbac_rules.specs.declared.binding.Binding.{Binding}
use Rattle.rbac_rules.specs.Granting.{Grants}
use Rattle.rbac_rules.specs.Matching.{Matches}
use Rattle.rbac_timeline.specs.declared.kind.Kind.{Kind}
use Rattle.rbac_timeline.specs.declared.kind.Kind.TheVariants.{Role, ClusterRole, RoleBinding, ClusterRoleBinding}
use Rattle.rbac_timeline.specs.Choices.{Allows, Choice, IsBypassed, IsChoice, IsKnownKey, by_binding, by_group, by_nameless}
use Rattle.rbac_timeline.specs.Deciding.{cache_place}
use Rattle.rbac_timeline.specs.Decisions.{IsPossible}
use Rattle.rbac_timeline.specs.Kinds.{IsBindingOf, IsReached, IsReachedBy, IsReachedNameless, everywhere, in_namespace, kind_of, kind_of_key, role_key}
use Rattle.rbac_timeline.specs.Known.{Known}
use Rattle.rbac_timeline.specs.Sound.{AreSound}
use Rattle.rbac_timeline.specs.States.{By, Everything, IsBindingState, IsGranted, IsRoleState, Nothing, ReadsRules, State}
use Rattle.rbac_timeline.proofs.Extremes.{Greatest, Least, greatest_state, least_state, read_binding, read_rules}
use Rattle.rbac_timeline.specs.Extents.{MayGrant, MustGrant}

abbrev pub place_of_role : Places → ObjectKey → ℕ
place_of_role places key = cache_place (kind_of_key key) places

abbrev pub place_of_binding : Places → ObjectKey → ℕ
place_of_binding places key = cache_place (kind_of_key key) places

pub IsGranted-weaker : {X : Type 0} (P Q : X → Type 0) (state : State X) → ((x : X) → P x → Q x) → IsGranted P state → IsGranted Q state
IsGranted-weaker P Q Nothing weaker granted = granted
IsGranted-weaker P Q (By x) weaker granted = weaker x granted
IsGranted-weaker P Q Everything weaker granted = tt

-- what a binding says grants, where the role that it names may grant, and where it does for certain
abbrev pub MayGrantBy : Known → Places → ObjectKey → User → RequestAttrs → Binding → Type 0
MayGrantBy known places key who attrs binding = Any (λ subject. Matches subject who) binding.subjects
    × MayGrant ReadsRules known (role_key key binding) (place_of_role places (role_key key binding)) (λ rules. Grants rules attrs)

abbrev pub MustGrantBy : Known → Places → ObjectKey → User → RequestAttrs → Binding → Type 0
MustGrantBy known places key who attrs binding = Any (λ subject. Matches subject who) binding.subjects
    × MustGrant ReadsRules known (role_key key binding) (place_of_role places (role_key key binding)) (λ rules. Grants rules attrs)

-- a binding may grant, or one without a name
pub data MayAllow (known : Known) (places : Places) (who : User) (attrs : RequestAttrs) : Type 0 where
  may_by_group : IsBypassed known who → MayAllow known places who attrs
  may_by_binding : (key : ObjectKey) → IsKnownKey known key → IsReached key attrs
      → MayGrant (IsBindingOf key) known key (place_of_binding places key) (MayGrantBy known places key who attrs) → MayAllow known places who attrs
  may_by_nameless : (number : ℕ) (span : OpaqueSpan) → slice_get known.spans number ≡ Some span → IsReachedNameless span.cover attrs
      → span.low < cache_place (kind_of span.cover.group span.cover.resource) places → MayAllow known places who attrs

pub data MustAllow (known : Known) (places : Places) (who : User) (attrs : RequestAttrs) : Type 0 where
  must_by_group : IsBypassed known who → MustAllow known places who attrs
  must_by_binding : (key : ObjectKey) → IsKnownKey known key → IsReached key attrs
      → MustGrant (IsBindingOf key) known key (place_of_binding places key) (MustGrantBy known places key who attrs) → MustAllow known places who attrs

-- the state that a choice gives a role that is named is possible at the role's place
role_by : (cluster : Bool) (key : ObjectKey) (binding : Binding) → binding.role_is_cluster ≡ cluster → (known : Known) (places : Places) (choice : Choice) → IsChoice known places choice
    → IsRoleState known (role_key key binding) (place_of_role places (role_key key binding)) (choice.role (role_key key binding))
role_by true key binding is known places choice chosen =
    rw is (chosen.of_cluster_roles _ refl)
role_by false key binding is known places choice chosen =
    rw is (chosen.of_roles _ refl)

role_possible : (key : ObjectKey) (binding : Binding) (known : Known) (places : Places) (choice : Choice) → IsChoice known places choice
    → IsRoleState known (role_key key binding) (place_of_role places (role_key key binding)) (choice.role (role_key key binding))
role_possible key binding known places choice chosen = role_by binding.role_is_cluster key binding refl known places choice chosen

binding_by : (kind : Option Kind) (key : ObjectKey) (attrs : RequestAttrs) → kind_of_key key ≡ kind → IsReachedBy kind key attrs → (known : Known) (places : Places) (choice : Choice)
    → IsChoice known places choice → IsBindingState known key (cache_place kind places) (choice.binding key)
binding_by None key attrs is reached known places choice chosen = absurd reached
binding_by (Some Role) key attrs is reached known places choice chosen = absurd reached
binding_by (Some ClusterRole) key attrs is reached known places choice chosen = absurd reached
binding_by (Some RoleBinding) key attrs is reached known places choice chosen = chosen.of_bindings key is
binding_by (Some ClusterRoleBinding) key attrs is reached known places choice chosen = chosen.of_cluster_bindings key is

binding_possible : (key : ObjectKey) (attrs : RequestAttrs) → IsReached key attrs → (known : Known) (places : Places) (choice : Choice) → IsChoice known places choice
    → IsBindingState known key (place_of_binding places key) (choice.binding key)
binding_possible key attrs reached known places choice chosen = binding_by (kind_of_key key) key attrs refl reached known places choice chosen

-- a choice that allows shows that the greatest states do
nameless_begun : (known : Known) (places : Places) (attrs : RequestAttrs) (choice : Choice) → IsChoice known places choice → (number : ℕ) (span : OpaqueSpan) → slice_get known.spans number ≡ Some span
    → IsReachedNameless span.cover attrs → choice.nameless number ≡ true → span.low < cache_place (kind_of span.cover.group span.cover.resource) places
nameless_begun known places attrs choice chosen number span found (everywhere create) granted =
    subst (λ k. span.low < cache_place k places) (sym create.of_kind) (chosen.of_cluster_nameless number span found create granted)
nameless_begun known places attrs choice chosen number span found (in_namespace create resource namespace) granted =
    subst (λ k. span.low < cache_place k places) (sym create.of_kind) (chosen.of_nameless number span found create granted)

pub may_from_choice : (known : Known) (places : Places) (who : User) (attrs : RequestAttrs) (choice : Choice) → IsChoice known places choice → Allows known choice who attrs → MayAllow known places who attrs
may_from_choice known places who attrs choice chosen (by_group bypassed) = may_by_group bypassed
may_from_choice known places who attrs choice chosen (by_binding key is_known reached granted) =
    may_by_binding key is_known reached (
      choice.binding key,
      binding_possible key attrs reached known places choice chosen,
      IsGranted-weaker _ (MayGrantBy known places key who attrs) (choice.binding key)
          (λ binding grants. (grants.0, (choice.role (role_key key binding), role_possible key binding known places choice chosen, grants.1))) granted,
    )
may_from_choice known places who attrs choice chosen (by_nameless number span found reached granted) =
    may_by_nameless number span found reached (nameless_begun known places attrs choice chosen number span found reached granted)

-- what is certain, every choice allows
pub choice_from_must : (known : Known) (places : Places) (who : User) (attrs : RequestAttrs) (choice : Choice) → IsChoice known places choice → MustAllow known places who attrs → Allows known choice who attrs
choice_from_must known places who attrs choice chosen (must_by_group bypassed) = by_group bypassed
choice_from_must known places who attrs choice chosen (must_by_binding key is_known reached must) =
    by_binding key is_known reached (IsGranted-weaker (MustGrantBy known places key who attrs) _ (choice.binding key)
    (λ binding grants. (grants.0, grants.1 (choice.role (role_key key binding)) (role_possible key binding known places choice chosen)))
    (must (choice.binding key) (binding_possible key attrs reached known places choice chosen)))

module _ (known : Known) (sound : AreSound known.versions known.ends) (places : Places) where
  least_role : (key : ObjectKey) → Least ReadsRules known key (place_of_role places key)
  least_role key = least_state ReadsRules known sound key (place_of_role places key) read_rules

  least_binding : (key : ObjectKey) → Least (IsBindingOf key) known key (place_of_binding places key)
  least_binding key = least_state (IsBindingOf key) known sound key (place_of_binding places key) (read_binding key)

  greatest_role : (key : ObjectKey) → Greatest ReadsRules known key (place_of_role places key)
  greatest_role key = greatest_state ReadsRules known sound key (place_of_role places key) read_rules

  greatest_binding : (key : ObjectKey) → Greatest (IsBindingOf key) known key (place_of_binding places key)
  greatest_binding key = greatest_state (IsBindingOf key) known sound key (place_of_binding places key) (read_binding key)

  abbrev least_choice : Choice
  least_choice = record { role = λ key. (least_role key).state; binding = λ key. (least_binding key).state; nameless = λ number. false }

  begun_test : Option OpaqueSpan → Bool
  begun_test None = false
  begun_test (Some span) = ltb span.low (cache_place (kind_of span.cover.group span.cover.resource) places)

  abbrev greatest_choice : Choice
  greatest_choice = record { role = λ key. (greatest_role key).state; binding = λ key. (greatest_binding key).state; nameless = λ number. begun_test (slice_get known.spans number) }

  least_is_choice : IsChoice known places least_choice
  least_is_choice = record {
    of_roles = λ key kind. subst (λ k. IsRoleState known key (cache_place k places) (least_role key).state) kind (least_role key).possible;
    of_cluster_roles = λ key kind. subst (λ k. IsRoleState known key (cache_place k places) (least_role key).state) kind (least_role key).possible;
    of_bindings = λ key kind. subst (λ k. IsBindingState known key (cache_place k places) (least_binding key).state) kind (least_binding key).possible;
    of_cluster_bindings = λ key kind. subst (λ k. IsBindingState known key (cache_place k places) (least_binding key).state) kind (least_binding key).possible;
    of_nameless = λ number span found create granted. absurd (false≢true granted);
    of_cluster_nameless = λ number span found create granted. absurd (false≢true granted);
  }

  begun_from_test : (number : ℕ) (span : OpaqueSpan) (kind : Kind) → slice_get known.spans number ≡ Some span → kind_of span.cover.group span.cover.resource ≡ Some kind
      → begun_test (slice_get known.spans number) ≡ true → span.low < cache_place (Some kind) places
  unfolding begun_test
  begun_from_test number span kind found is granted =
      let test : ltb span.low (cache_place (kind_of span.cover.group span.cover.resource) places) ≡ true = ap begun_test (sym found) ∙ granted in
      subst (λ k. span.low < cache_place k places) is (ltb-true span.low (cache_place (kind_of span.cover.group span.cover.resource) places) test)

  test_from_begun : (number : ℕ) (span : OpaqueSpan) → slice_get known.spans number ≡ Some span → span.low < cache_place (kind_of span.cover.group span.cover.resource) places
      → begun_test (slice_get known.spans number) ≡ true
  unfolding begun_test
  test_from_begun number span found begun =
      ap begun_test found ∙ lt-ltb span.low (cache_place (kind_of span.cover.group span.cover.resource) places) begun

  greatest_is_choice : IsChoice known places greatest_choice
  greatest_is_choice = record {
    of_roles = λ key kind. subst (λ k. IsRoleState known key (cache_place k places) (greatest_role key).state) kind (greatest_role key).possible;
    of_cluster_roles = λ key kind. subst (λ k. IsRoleState known key (cache_place k places) (greatest_role key).state) kind (greatest_role key).possible;
    of_bindings = λ key kind. subst (λ k. IsBindingState known key (cache_place k places) (greatest_binding key).state) kind (greatest_binding key).possible;
    of_cluster_bindings = λ key kind. subst (λ k. IsBindingState known key (cache_place k places) (greatest_binding key).state) kind (greatest_binding key).possible;
    of_nameless = λ number span found create granted. begun_from_test number span RoleBinding found create.of_kind granted;
    of_cluster_nameless = λ number span found create granted. begun_from_test number span ClusterRoleBinding found create.of_kind granted;
  }

  -- where a binding may grant, the greatest states allow
  greatest_allows : (who : User) (attrs : RequestAttrs) → MayAllow known places who attrs → Allows known greatest_choice who attrs
  greatest_allows who attrs (may_by_group bypassed) = by_group bypassed
  greatest_allows who attrs (may_by_binding key is_known reached may) =
      by_binding key is_known reached (IsGranted-weaker (MayGrantBy known places key who attrs) _ (greatest_binding key).state
      (λ binding grants. (grants.0, (greatest_role (role_key key binding)).greatest (λ rules. Grants rules attrs) grants.1))
      ((greatest_binding key).greatest (MayGrantBy known places key who attrs) may))
  greatest_allows who attrs (may_by_nameless number span found reached begun) = by_nameless number span found reached (test_from_begun number span found begun)

  -- and what the least states allow is certain
  must_from_least : (who : User) (attrs : RequestAttrs) → Allows known least_choice who attrs → MustAllow known places who attrs
  must_from_least who attrs (by_group bypassed) = must_by_group bypassed
  must_from_least who attrs (by_binding key is_known reached granted) =
      must_by_binding key is_known reached ((least_binding key).least (MustGrantBy known places key who attrs)
      (IsGranted-weaker _ (MustGrantBy known places key who attrs) (least_binding key).state
      (λ binding grants. (grants.0, (least_role (role_key key binding)).least (λ rules. Grants rules attrs) grants.1)) granted))
  must_from_least who attrs (by_nameless number span found reached granted) = absurd (false≢true granted)

  pub allow_from_may : (who : User) (attrs : RequestAttrs) → MayAllow known places who attrs → IsPossible known places who attrs Allow
  allow_from_may who attrs may = (greatest_choice, greatest_is_choice, greatest_allows who attrs may)

  pub forbid_from_not_must : (who : User) (attrs : RequestAttrs) → (MustAllow known places who attrs → ⊥) → IsPossible known places who attrs Forbid
  forbid_from_not_must who attrs not = (least_choice, least_is_choice, λ allows. not (must_from_least who attrs allows))

pub may_from_allow : (known : Known) (places : Places) (who : User) (attrs : RequestAttrs) → IsPossible known places who attrs Allow → MayAllow known places who attrs
may_from_allow known places who attrs possible = may_from_choice known places who attrs possible.0 possible.1 possible.2

pub not_must_from_forbid : (known : Known) (places : Places) (who : User) (attrs : RequestAttrs) → IsPossible known places who attrs Forbid → MustAllow known places who attrs → ⊥
not_must_from_forbid known places who attrs possible must = possible.2 (choice_from_must known places who attrs possible.0 possible.1 must)
