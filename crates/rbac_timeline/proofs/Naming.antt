-- Bindings that name a subject, and users that a subject means.
use Rattle.std.proofs.Common.{◌≡◌, ℕ, zero, suc, ◌<◌, ◌↔◌, ◌⊎◌, ⊎_elim, inl, inr, Bool, true, false, cond, Option, Some, None, List, [], ◌∷◌, length, get_or, map, refl, sym, ◌∙◌, subst, ap, arith}
use Rattle.std.specs.List.{Contains, flat_map}
use Rattle.std.proofs.lemmas.Bool.{cond-true}
use Rattle.std.proofs.lemmas.List.Elements.{Contains-append_cases, Contains-append_left, Contains-append_right}
use Rattle.base_types.proofs.Quantifiers.{Any-map, Any-unmap}
use Rattle.base_types.specs.declared.kubernetes.key.ObjectKey.{ObjectKey}
use Rattle.base_types.specs.declared.kubernetes.request.RequestAttrs.{RequestAttrs}
use Rattle.base_types.specs.declared.kubernetes.request.User.{User as Asker}
use Rattle.rbac_rules.specs.declared.binding.Binding.{Binding}
use Rattle.rbac_rules.specs.declared.binding.Subject.{Subject}
use Rattle.rbac_rules.specs.declared.binding.Subject.TheVariants.{Group, ServiceAccount, User}
use Rattle.rbac_timeline.specs.declared.index.Index.{Index}
use Rattle.rbac_timeline.specs.declared.kind.Kind.{Kind}
use Rattle.rbac_timeline.specs.declared.kind.Kind.TheVariants.{Role as RoleKind, ClusterRole, RoleBinding, ClusterRoleBinding}
use Rattle.rbac_timeline.specs.declared.version.RbacContent.{RbacContent}
use Rattle.rbac_timeline.specs.declared.version.RbacContent.TheVariants.{Bound, Role, Unreadable}
use Rattle.rbac_timeline.specs.declared.version.RbacVersion.{RbacVersion}
use Rattle.rbac_timeline.specs.declared.way.Way.{Way}
use Rattle.rbac_timeline.specs.declared.way.Way.TheVariants.{ClusterBindings, ClusterRoles, Roles}
use Rattle.rbac_timeline.specs.Choices.{IsKnownKey}
use Rattle.rbac_timeline.specs.Extents.{MayGrantInWay, MustGrantInWay, bindings_in, by_key}
use Rattle.rbac_timeline.specs.Index.{AreBindingsOf, AreRising, Names}
use Rattle.rbac_timeline.specs.Indexed.{IsIndexed, Mention, keys_of, mention_of, mentions_in, mentions_of}
use Rattle.rbac_timeline.specs.Kept.{MayGrantOf, MustGrantByListed}
use Rattle.rbac_timeline.specs.Kinds.{IsBindingOf, IsKeyOf, can_bind, kind_of_key, subjects_of}
use Rattle.rbac_timeline.specs.Known.{Known}

-- a subject that is named, of a binding that can be read
abbrev IsNamedBy : ObjectKey → RbacContent → Subject → Type 0
IsNamedBy key content subject = (IsKeyOf RoleBinding key ⊎ IsKeyOf ClusterRoleBinding key) × ((binding : Binding) × IsBindingOf key content binding × Contains binding.subjects subject)

in_nothing : {X : Type 0} (x : X) → Contains [] x → ⊥
in_nothing x among = let within = among.1 in omega arith

by_cluster : (of_cluster : Bool) (key : ObjectKey) (binding : Binding) (subject : Subject) → binding.role_is_cluster ≡ of_cluster → kind_of_key key ≡ Some ClusterRoleBinding
    → Contains (cond of_cluster binding.subjects []) subject → IsNamedBy key (Bound binding) subject
by_cluster true key binding subject of is among = (inr is, (binding, (refl, λ cluster. of), among))
by_cluster false key binding subject of is among = absurd (in_nothing subject among)

by_kind : (kind : Option Kind) (key : ObjectKey) (binding : Binding) (subject : Subject) → kind_of_key key ≡ kind → Contains (cond (can_bind kind binding.role_is_cluster) binding.subjects []) subject
    → IsNamedBy key (Bound binding) subject
by_kind None key binding subject is among = absurd (in_nothing subject among)
by_kind (Some RoleKind) key binding subject is among = absurd (in_nothing subject among)
by_kind (Some ClusterRole) key binding subject is among = absurd (in_nothing subject among)
by_kind (Some RoleBinding) key binding subject is among = (inl is, (binding, (refl, λ cluster. absurd (cc)), among))
by_kind (Some ClusterRoleBinding) key binding subject is among = by_cluster binding.role_is_cluster key binding subject refl is among

named_by : (key : ObjectKey) (content : RbacContent) (subject : Subject) → Contains (subjects_of key content) subject → IsNamedBy key content subject
named_by key (Role rules) subject among = absurd (in_nothing subject among)
named_by key (Bound binding) subject among = by_kind (kind_of_key key) key binding subject refl among
named_by key Unreadable subject among = absurd (in_nothing subject among)

can_from : (key : ObjectKey) (content : RbacContent) (binding : Binding) → IsKeyOf RoleBinding key ⊎ IsKeyOf ClusterRoleBinding key → IsBindingOf key content binding
    → can_bind (kind_of_key key) binding.role_is_cluster ≡ true
can_from key content binding (inl plain) read = ap (λ k. can_bind k binding.role_is_cluster) plain
can_from key content binding (inr cluster) read = ap (λ k. can_bind k binding.role_is_cluster) cluster ∙ read.1 cluster

pub subjects_from : (key : ObjectKey) (content : RbacContent) (binding : Binding) (subject : Subject) → IsKeyOf RoleBinding key ⊎ IsKeyOf ClusterRoleBinding key → IsBindingOf key content binding
    → Contains binding.subjects subject → Contains (subjects_of key content) subject
subjects_from key content binding subject kind read among =
    subst (λ c. Contains (subjects_of key c) subject) (sym read.0)
    (subst (λ l. Contains l subject) (sym (cond-true (can_bind (kind_of_key key) binding.role_is_cluster) binding.subjects [] (can_from key content binding kind read))) among)

contains_map : {A B : Type 0} (f : A → B) (xs : List A) (x : A) → Contains xs x → Contains (map f xs) (f x)
contains_map {A} {B} f xs x among =
    let any = Any-map f (λ (b : B). b ≡ f x) xs (among.0, x, among.1, among.2, refl) in
    (any.0, any.2, subst (λ (b : B). get_or (map f xs) any.0 b ≡ b) any.4 any.3)

contains_unmap : {A B : Type 0} (f : A → B) (xs : List A) (y : B) → Contains (map f xs) y → (x : A) × Contains xs x × (f x ≡ y)
contains_unmap {A} {B} f xs y among =
    let any = Any-unmap f (λ (b : B). b ≡ y) xs (among.0, y, among.1, among.2, refl) in
    (any.1, (any.0, any.2, any.3), any.4)

contains_joined : {A B : Type 0} (f : A → List B) (xs : List A) (x : A) (y : B) → Contains xs x → Contains (f x) y → Contains (flat_map f xs) y
contains_joined {A} {B} f xs x y among here = go xs among.0 among.1 among.2
  where
    go : (xs : List A) (k : ℕ) → k < length xs → get_or xs k x ≡ x → Contains (flat_map f xs) y
    go [] k within is = absurd (omega arith)
    go (a ∷ rest) zero within is = Contains-append_left (f a) (flat_map f rest) y (subst (λ (z : A). Contains (f z) y) (sym is) here)
    go (a ∷ rest) (suc k) within is = Contains-append_right (f a) (flat_map f rest) y (go rest k (omega arith) is)

pub names_from_mention : (versions : List RbacVersion) (subject : Subject) (key : ObjectKey) → Contains (mentions_of versions) (mention_of key subject) → Names versions subject key
names_from_mention [] subject key among = absurd (in_nothing (mention_of key subject) among)
names_from_mention (v ∷ versions) subject key among = ⊎_elim
    (λ here.
    let found = contains_unmap (mention_of v.key) (subjects_of v.key v.content) (mention_of key subject) here in
    let of_key : v.key ≡ key = ap (λ (m : Mention). m.key) found.2 in
    let of_subject : found.0 ≡ subject = ap (λ (m : Mention). m.subject) found.2 in
    let named = subst (λ k. IsNamedBy k v.content subject) of_key (subst (λ s. IsNamedBy v.key v.content s) of_subject (named_by v.key v.content found.0 found.1)) in
    record { version = v; known = (0, omega arith, refl); of_key = of_key; of_kind = named.0; binding = named.1.0; readable = named.1.1; named = named.1.2 })
    (λ later.
    let names = names_from_mention versions subject key later in
    let known = names.known in
    record { version = names.version; known = (suc known.0, (let within = known.1 in omega arith), known.2); of_key = names.of_key; of_kind = names.of_kind; binding = names.binding; readable = names.readable; named = names.named })
    (Contains-append_cases (mentions_in v) (mentions_of versions) (mention_of key subject) among)

pub mention_from_names : (versions : List RbacVersion) (subject : Subject) (key : ObjectKey) → Names versions subject key → Contains (mentions_of versions) (mention_of key subject)
mention_from_names versions subject key names =
    let v = names.version in
    let named = subjects_from key v.content names.binding subject names.of_kind names.readable names.named in
    let here : Contains (mentions_in v) (mention_of key subject) =
    subst (λ k. Contains (map (mention_of k) (subjects_of k v.content)) (mention_of key subject)) (sym names.of_key) (contains_map (mention_of key) (subjects_of key v.content) subject named) in
    contains_joined mentions_in versions v (mention_of key subject) names.known here

-- the keys of a subject are those of the bindings that name it
module _ (index : Index) (versions : List RbacVersion) (indexed : IsIndexed index (mentions_of versions)) where
  exact_keys : (subject : Subject) (key : ObjectKey) → Contains (keys_of index subject) key ↔ Names versions subject key
  exact_keys (User name) key = (
    (λ among. names_from_mention versions (User name) key ((indexed.by_user name key).0 among)),
    (λ names. (indexed.by_user name key).1 (mention_from_names versions (User name) key names)),
  )
  exact_keys (Group name) key = (
    (λ among. names_from_mention versions (Group name) key ((indexed.by_group name key).0 among)),
    (λ names. (indexed.by_group name key).1 (mention_from_names versions (Group name) key names)),
  )
  exact_keys (ServiceAccount namespace name) key = (
    (λ among. names_from_mention versions (ServiceAccount namespace name) key ((indexed.by_account namespace name key).0 among)),
    (λ names. (indexed.by_account namespace name key).1 (mention_from_names versions (ServiceAccount namespace name) key names)),
  )

  pub AreBindingsOf-keys : (subject : Subject) (keys : List ObjectKey) → keys ≡ keys_of index subject → AreRising keys → AreBindingsOf versions subject keys
  AreBindingsOf-keys subject keys is rising = record { rising = rising; exact = λ key. subst (λ l. Contains l key ↔ Names versions subject key) (sym is) (exact_keys subject key) }

pub way_kind : (way : Way) (key : ObjectKey) → IsKeyOf (bindings_in way) key → IsKeyOf RoleBinding key ⊎ IsKeyOf ClusterRoleBinding key
way_kind Roles key is = inl is
way_kind ClusterRoles key is = inl is
way_kind ClusterBindings key is = inr is

module _ (known : Known) (way : Way) (role_place binding_place : ℕ) (who : Asker) (attrs : RequestAttrs) where
  pub way_from_known : MayGrantOf known (IsKnownKey known) way role_place binding_place who attrs → MayGrantInWay known way role_place binding_place who attrs
  way_from_known of = by_key of.0 (record { is_known = of.1; of_kind = of.2.0; reached = of.2.1 }) of.2.2

  pub must_from_known : (key : ObjectKey) → IsKnownKey known key → MustGrantByListed known way role_place binding_place who attrs key → MustGrantInWay known way role_place binding_place who attrs
  must_from_known key is_known must = record { key = key; way_of = record { is_known = is_known; of_kind = must.0; reached = must.1 }; must = must.2 }
