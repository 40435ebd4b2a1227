-- The test of decisions tells what is possible.
use Rattle.std.proofs.Common.{◌≡◌, ℕ, ◌<◌, ◌↔◌, ◌⊎◌, ⊎_elim, inl, inr, true, not, List, [], ◌∷◌, Option, Some, None, Decides, map, refl, sym, ◌∙◌, subst, ap, arith}
use Rattle.std.specs.Prelude.{filter_map, nat_lt}
use Rattle.std.specs.List.{Any, Contains, cons_option, list_any}
use Rattle.std.proofs.lemmas.Bool.Decides.{Decides-and, Decides-like, Decides-ltb, Decides-not, Decides-or}
use Rattle.base_types.proofs.Quantifiers.{Any-contains, Any-head, Any-map, Any-tail, Any-unmap}
use Rattle.base_types.specs.Covers.{NamesExactly}
use Rattle.base_types.specs.Matching.{has_text}
use Rattle.base_types.specs.declared.kubernetes.key.Cover.{Cover}
use Rattle.base_types.specs.declared.kubernetes.key.CoverName.{CoverName}
use Rattle.base_types.specs.declared.kubernetes.key.CoverName.TheVariants.{Any as AnyName, Exact, Prefix}
use Rattle.base_types.specs.declared.kubernetes.key.ObjectKey.{ObjectKey}
use Rattle.base_types.specs.declared.verdict.placed.Places.{Places}
use Rattle.base_types.specs.declared.kubernetes.request.Decision.{Decision}
use Rattle.base_types.specs.declared.kubernetes.request.Decision.TheVariants.{Allow, Forbid}
use Rattle.base_types.specs.declared.kubernetes.request.RequestAttrs.{RequestAttrs}
use Rattle.base_types.specs.declared.kubernetes.request.User.{User}
use Rattle.clouds.proofs.Quantified.{Any-append_cases, Any-append_left, Any-append_right, Any-cons_cases}
use Rattle.clouds.specs.declared.span.OpaqueSpan.{OpaqueSpan}
use Rattle.rbac_rules.proofs.Texts.{has_text-Decides}
use Rattle.rbac_timeline.specs.declared.kind.Kind.{Kind}
use Rattle.rbac_timeline.specs.declared.kind.Kind.TheVariants.{Role as RoleKind, ClusterRole, RoleBinding, ClusterRoleBinding}
use Rattle.rbac_timeline.specs.declared.version.RbacVersion.{RbacVersion}
use Rattle.rbac_timeline.specs.Choices.{IsBypassed, IsKnownKey, has_version, is_named}
use Rattle.rbac_timeline.specs.Deciding.{binding_may_grant, binding_must_grant, bound_may_grant, bound_must_grant, cache_place, is_bypassed, is_possible, key_named, known_keys, may_allow, may_pass, must_allow, must_pass, named_key, nameless_may_grant, reaches}
use Rattle.rbac_timeline.specs.Decisions.{IsPossible}
use Rattle.rbac_timeline.specs.Extents.{MayGrant, MustGrant}
use Rattle.rbac_timeline.specs.Hidden.{takes_namespace}
use Rattle.rbac_timeline.specs.Kinds.{IsBindingOf, IsReached, IsReachedBy, IsReachedNameless, everywhere, in_namespace, kind_of, kind_of_key, nameless_kind}
use Rattle.rbac_timeline.specs.Known.{Known}
use Rattle.rbac_timeline.specs.Sound.{AreSound}
use Rattle.rbac_timeline.proofs.Choosing.{MayAllow, MayGrantBy, MustAllow, MustGrantBy, allow_from_may, forbid_from_not_must, may_by_binding, may_by_group, may_by_nameless, may_from_allow, must_by_binding, must_by_group, not_must_from_forbid}
use Rattle.rbac_timeline.proofs.Hiding.{takes_namespace-Decides}
use Rattle.rbac_timeline.proofs.Passing.{binding_may-Decides, binding_must-Decides}
use Rattle.rbac_timeline.proofs.Telling.{Decides-any, Decides-flag}
use Rattle.rbac_timeline.proofs.Unnamed.{among_from, create_from, get_from, kind_from}

-- the keys that some items give
module _ {X Y : Type 0} (give : X → Option Y) (P : Y → Type 0) where
  abbrev Gives : X → Type 0
  Gives x = (y : Y) × (give x ≡ Some y) × P y

  given_first : (x : X) (rest : List Y) (o : Option Y) → give x ≡ o → Any P (cons_option o rest) → Gives x ⊎ Any P rest
  given_first x rest None is any = inr any
  given_first x rest (Some y) is any = ⊎_elim (λ here. inl (y, is, here)) (λ later. inr later) (Any-cons_cases P y rest any)

  pub any_given : (xs : List X) → Any P (filter_map give xs) → Any Gives xs
  any_given [] any = let within = any.2 in absurd (omega arith)
  any_given (x ∷ xs) any = ⊎_elim
      (λ here. Any-head Gives x xs here)
      (λ later. Any-tail Gives x xs (any_given xs later))
      (given_first x (filter_map give xs) (give x) refl any)

  give_later : (rest : List Y) (o : Option Y) → Any P rest → Any P (cons_option o rest)
  give_later rest None any = any
  give_later rest (Some y) any = Any-tail P y rest any

  pub given_any : (xs : List X) → Any Gives xs → Any P (filter_map give xs)
  given_any [] any = let within = any.2 in absurd (omega arith)
  given_any (x ∷ xs) any = ⊎_elim
      (λ here. subst (λ o. Any P (cons_option o (filter_map give xs))) (sym here.1) (Any-head P here.0 (filter_map give xs) here.2))
      (λ later. give_later (filter_map give xs) (give x) (given_any xs later))
      (Any-cons_cases Gives x xs any)

-- the key that a cover names
name_from : (cover : Cover) (namespace : Option (List ℕ)) (name : CoverName) → cover.namespace ≡ namespace → cover.name ≡ name → (key : ObjectKey)
    → key_named cover.group cover.resource namespace name ≡ Some key → NamesExactly cover key
name_from cover None name is_namespace is_name key named = absurd (cc)
name_from cover (Some namespace) (Prefix front) is_namespace is_name key named = absurd (cc)
name_from cover (Some namespace) AnyName is_namespace is_name key named = absurd (cc)
name_from cover (Some namespace) (Exact name) is_namespace is_name key named =
    let same : record { group = cover.group; resource = cover.resource; namespace = namespace; name = name } ≡ key = cc in
    subst (λ k. NamesExactly cover k) same (record { group = refl; resource = refl; namespace = is_namespace; name = is_name })

named_from : (cover : Cover) (key : ObjectKey) → named_key cover ≡ Some key → NamesExactly cover key
named_from cover key named = name_from cover cover.namespace cover.name refl refl key named

from_named : (cover : Cover) (key : ObjectKey) → NamesExactly cover key → named_key cover ≡ Some key
from_named cover key names = rw (names.namespace, names.name, ← names.group, ← names.resource) refl

module _ (known : Known) (P : ObjectKey → Type 0) where
  from_keys : Any P (known_keys known) → (key : ObjectKey) × IsKnownKey known key × P key
  from_keys any = ⊎_elim
      (λ of_versions.
      let by = Any-unmap (λ (v : RbacVersion). v.key) P known.versions of_versions in (by.1.key, has_version by.1 (by.0, by.2, by.3) refl, by.4))
      (λ of_spans.
      let by = any_given (λ (s : OpaqueSpan). named_key s.cover) P known.spans of_spans in
      (by.4.0, is_named by.1 (by.0, by.2, by.3) (named_from by.1.cover by.4.0 by.4.1), by.4.2))
      (Any-append_cases P (map (λ v. v.key) known.versions) _ any)

  to_keys : (key : ObjectKey) → IsKnownKey known key → P key → Any P (known_keys known)
  to_keys key (has_version version among is) holds =
      Any-append_left P (map (λ v. v.key) known.versions) _ (Any-map (λ (v : RbacVersion). v.key) P known.versions (Any-contains (λ (v : RbacVersion). P v.key) known.versions version among (subst P (sym is) holds)))
  to_keys key (is_named span among names) holds =
      Any-append_right P (map (λ v. v.key) known.versions) _ (given_any (λ (s : OpaqueSpan). named_key s.cover) P known.spans
      (Any-contains (Gives (λ (s : OpaqueSpan). named_key s.cover) P) known.spans span among (key, from_named span.cover key names, holds)))

reaches-Decides : (kind : Option Kind) (key : ObjectKey) (attrs : RequestAttrs) → Decides (reaches kind (Some key.namespace) attrs) (IsReachedBy kind key attrs)
reaches-Decides None key attrs = ((λ yes. absurd (cc)), (λ reached. absurd reached))
reaches-Decides (Some RoleKind) key attrs = ((λ yes. absurd (cc)), (λ reached. absurd reached))
reaches-Decides (Some ClusterRole) key attrs = ((λ yes. absurd (cc)), (λ reached. absurd reached))
reaches-Decides (Some RoleBinding) key attrs =
    Decides-and attrs.is_resource (takes_namespace (Some key.namespace) attrs.namespace) (Decides-flag attrs.is_resource) (takes_namespace-Decides (Some key.namespace) attrs.namespace)
reaches-Decides (Some ClusterRoleBinding) key attrs = ((λ yes. tt), (λ reached. refl))

-- a binding without a known name, of this kind
reached_from : (kind : Option Kind) (cover : Cover) (attrs : RequestAttrs) → nameless_kind cover ≡ kind → reaches kind cover.namespace attrs ≡ true → IsReachedNameless cover attrs
reached_from None cover attrs is passed = absurd (cc)
reached_from (Some RoleKind) cover attrs is passed = absurd (cc)
reached_from (Some ClusterRole) cover attrs is passed = absurd (cc)
reached_from (Some RoleBinding) cover attrs is passed =
    let both = (Decides-and attrs.is_resource (takes_namespace cover.namespace attrs.namespace) (Decides-flag attrs.is_resource) (takes_namespace-Decides cover.namespace attrs.namespace)).0 passed in
    in_namespace (create_from cover RoleBinding is) both.0 both.1
reached_from (Some ClusterRoleBinding) cover attrs is passed = everywhere (create_from cover ClusterRoleBinding is)

from_reached : (cover : Cover) (attrs : RequestAttrs) → IsReachedNameless cover attrs → reaches (nameless_kind cover) cover.namespace attrs ≡ true
from_reached cover attrs (everywhere create) = ap (λ k. reaches k cover.namespace attrs) (kind_from cover ClusterRoleBinding create)
from_reached cover attrs (in_namespace create resource fits) =
    ap (λ k. reaches k cover.namespace attrs) (kind_from cover RoleBinding create)
    ∙ (Decides-and attrs.is_resource (takes_namespace cover.namespace attrs.namespace) (Decides-flag attrs.is_resource) (takes_namespace-Decides cover.namespace attrs.namespace)).1 (resource, fits)

-- such a create tells its kind
kind_told : (cover : Cover) (attrs : RequestAttrs) → IsReachedNameless cover attrs → nameless_kind cover ≡ kind_of cover.group cover.resource
kind_told cover attrs (everywhere create) = kind_from cover ClusterRoleBinding create ∙ sym create.of_kind
kind_told cover attrs (in_namespace create resource fits) = kind_from cover RoleBinding create ∙ sym create.of_kind

abbrev NamelessMay : Places → RequestAttrs → OpaqueSpan → Type 0
NamelessMay places attrs span = IsReachedNameless span.cover attrs × (span.low < cache_place (kind_of span.cover.group span.cover.resource) places)

nameless-Decides : (places : Places) (attrs : RequestAttrs) (span : OpaqueSpan) → Decides (nameless_may_grant places attrs span) (NamelessMay places attrs span)
nameless-Decides places attrs span =
    let told = Decides-and (reaches (nameless_kind span.cover) span.cover.namespace attrs) (nat_lt span.low (cache_place (nameless_kind span.cover) places))
    ((λ yes. reached_from (nameless_kind span.cover) span.cover attrs refl yes), (λ reached. from_reached span.cover attrs reached))
    (Decides-ltb span.low (cache_place (nameless_kind span.cover) places)) in (
      (λ yes. let both = told.0 yes in (both.0, subst (λ k. span.low < cache_place k places) (kind_told span.cover attrs both.0) both.1)),
      (λ may. told.1 (may.0, subst (λ k. span.low < cache_place k places) (sym (kind_told span.cover attrs may.0)) may.1)),
    )

is_bypassed-Decides : (known : Known) (who : User) → Decides (is_bypassed known who) (IsBypassed known who)
is_bypassed-Decides known who = Decides-any (has_text known.bypass) (Contains known.bypass) (has_text-Decides known.bypass) who.groups

module _ (known : Known) (sound : AreSound known.versions known.ends) (places : Places) (who : User) (attrs : RequestAttrs) where
  abbrev MayBy : ObjectKey → Type 0
  MayBy key = IsReached key attrs × MayGrant (IsBindingOf key) known key (cache_place (kind_of_key key) places) (MayGrantBy known places key who attrs)

  abbrev MustBy : ObjectKey → Type 0
  MustBy key = IsReached key attrs × MustGrant (IsBindingOf key) known key (cache_place (kind_of_key key) places) (MustGrantBy known places key who attrs)

  may_by-Decides : (key : ObjectKey) → Decides (binding_may_grant known places who attrs key) (MayBy key)
  may_by-Decides key =
      Decides-and (reaches (kind_of_key key) (Some key.namespace) attrs) (may_pass known key (cache_place (kind_of_key key) places) (bound_may_grant known places who attrs key))
      (reaches-Decides (kind_of_key key) key attrs) (binding_may-Decides known sound places attrs who key)

  must_by-Decides : (key : ObjectKey) → Decides (binding_must_grant known places who attrs key) (MustBy key)
  must_by-Decides key =
      Decides-and (reaches (kind_of_key key) (Some key.namespace) attrs) (must_pass known key (cache_place (kind_of_key key) places) (bound_must_grant known places who attrs key))
      (reaches-Decides (kind_of_key key) key attrs) (binding_must-Decides known sound places attrs who key)

  may_from : IsBypassed known who ⊎ (Any MayBy (known_keys known) ⊎ Any (NamelessMay places attrs) known.spans) → MayAllow known places who attrs
  may_from (inl bypassed) = may_by_group bypassed
  may_from (inr (inl any)) = let by = from_keys known MayBy any in may_by_binding by.0 by.1 by.2.0 by.2.1
  may_from (inr (inr any)) = may_by_nameless any.0 any.1 (get_from known.spans any.0 any.1 any.2 any.3) any.4.0 any.4.1

  from_may : MayAllow known places who attrs → IsBypassed known who ⊎ (Any MayBy (known_keys known) ⊎ Any (NamelessMay places attrs) known.spans)
  from_may (may_by_group bypassed) = inl bypassed
  from_may (may_by_binding key is_known reached may) = inr (inl (to_keys known MayBy key is_known (reached, may)))
  from_may (may_by_nameless number span found reached begun) =
      let there = among_from known.spans number span found in
      inr (inr (number, span, there.0, there.1, (reached, begun)))

  must_from : IsBypassed known who ⊎ Any MustBy (known_keys known) → MustAllow known places who attrs
  must_from (inl bypassed) = must_by_group bypassed
  must_from (inr any) = let by = from_keys known MustBy any in must_by_binding by.0 by.1 by.2.0 by.2.1

  from_must : MustAllow known places who attrs → IsBypassed known who ⊎ Any MustBy (known_keys known)
  from_must (must_by_group bypassed) = inl bypassed
  from_must (must_by_binding key is_known reached must) = inr (to_keys known MustBy key is_known (reached, must))

  may_allow-Decides : Decides (may_allow known places who attrs) (MayAllow known places who attrs)
  may_allow-Decides = Decides-like (may_allow known places who attrs) may_from from_may
      (Decides-or (is_bypassed known who) _ (is_bypassed-Decides known who)
      (Decides-or (list_any (binding_may_grant known places who attrs) (known_keys known)) (list_any (nameless_may_grant places attrs) known.spans)
      (Decides-any (binding_may_grant known places who attrs) MayBy may_by-Decides (known_keys known))
      (Decides-any (nameless_may_grant places attrs) (NamelessMay places attrs) (nameless-Decides places attrs) known.spans)))

  must_allow-Decides : Decides (must_allow known places who attrs) (MustAllow known places who attrs)
  must_allow-Decides = Decides-like (must_allow known places who attrs) must_from from_must
      (Decides-or (is_bypassed known who) (list_any (binding_must_grant known places who attrs) (known_keys known)) (is_bypassed-Decides known who)
      (Decides-any (binding_must_grant known places who attrs) MustBy must_by-Decides (known_keys known)))

  pub is_possible-Decides : (decision : Decision) → (is_possible known places who attrs decision ≡ true) ↔ IsPossible known places who attrs decision
  is_possible-Decides Allow = Decides-like (may_allow known places who attrs) (allow_from_may known sound places who attrs) (may_from_allow known places who attrs) may_allow-Decides
  is_possible-Decides Forbid = Decides-like (not (must_allow known places who attrs)) (forbid_from_not_must known sound places who attrs) (not_must_from_forbid known places who attrs)
      (Decides-not (must_allow known places who attrs) must_allow-Decides)
