-- From what is stored of a version to what its object grants.
use Rattle.std.proofs.Common.{◌≡◌, ℕ, ◌<◌, ⊎_elim, Bool, true, false, ◌&&◌, ◌↔◌, Option, Some, None, List, [], refl, sym, ◌∙◌, subst, ap, cond, arith}
use Rattle.std.proofs.lemmas.Bool.{and_from, and_parts}
use Rattle.base_types.specs.declared.kubernetes.key.ObjectKey.{ObjectKey}
use Rattle.base_types.specs.declared.kubernetes.request.RequestAttrs.{RequestAttrs}
use Rattle.base_types.specs.declared.kubernetes.request.User.{User}
use Rattle.rbac_rules.specs.declared.binding.Binding.{Binding}
use Rattle.rbac_rules.specs.declared.role.PolicyRule.{PolicyRule}
use Rattle.rbac_rules.specs.Granting.{Grants}
use Rattle.rbac_timeline.specs.declared.history.Content.{Content}
use Rattle.rbac_timeline.specs.declared.history.Content.TheVariants.{Rules, Bound as BoundTo, Unreadable as Unread}
use Rattle.rbac_timeline.specs.declared.kind.Kind.{Kind}
use Rattle.rbac_timeline.specs.declared.kind.Kind.TheVariants.{Role as RoleKind, ClusterRole, RoleBinding, ClusterRoleBinding}
use Rattle.rbac_timeline.specs.declared.version.RbacContent.{RbacContent}
use Rattle.rbac_timeline.specs.declared.version.RbacContent.TheVariants.{Bound, Role, Unreadable}
use Rattle.rbac_timeline.specs.declared.version.RbacVersion.{RbacVersion}
use Rattle.rbac_timeline.specs.declared.way.Way.{Way}
use Rattle.rbac_timeline.specs.Extents.{IsCertain, IsNotGone, IsSubject, MayGrantByKey, MayGrantByRole, MustGrant, MustGrantByKey, MustGrantByRole, roles_in}
use Rattle.rbac_timeline.specs.Kept.{MayGrantByContent, MayGrantByRules, MustGrantByContent, MustGrantByRules, content_of}
use Rattle.rbac_timeline.specs.Kinds.{IsBindingOf, IsKeyOf, is_cluster_binding, kind_of_key, role_key}
use Rattle.rbac_timeline.specs.Known.{Known}
use Rattle.rbac_timeline.specs.Sound.{AreSound}
use Rattle.rbac_timeline.specs.States.{Reading, ReadsRules}
use Rattle.rbac_timeline.proofs.Extremes.{decide_certain, not_gone_from}
use Rattle.rbac_timeline.proofs.Granting.{IsHeld, may_read, may_unread, must_gone, must_read, must_there, must_unread, read_there, unread_there}

less_apart : (a b : ℕ) → a < b → a ≡ b → ⊥
less_apart a b less same = omega arith

abbrev pub tag : Content → ℕ
tag (Rules rules) = 0
tag (BoundTo binding role) = 1
tag Unread = 2

abbrev rules_of : Content → List PolicyRule
rules_of (Rules rules) = rules
rules_of (BoundTo binding role) = []
rules_of Unread = []

abbrev binding_of : Binding → Content → Binding
binding_of d (Rules rules) = d
binding_of d (BoundTo binding role) = binding
binding_of d Unread = d

abbrev role_of : ObjectKey → Content → ObjectKey
role_of d (Rules rules) = d
role_of d (BoundTo binding role) = role
role_of d Unread = d

abbrev pub binding_in : Binding → RbacContent → Binding
binding_in d (Role rules) = d
binding_in d (Bound binding) = binding
binding_in d Unreadable = d

-- what is stored of a binding, by whether it is of a ClusterRoleBinding and of a ClusterRole
abbrev kept_binding : Bool → Bool → Binding → ObjectKey → Content
kept_binding cluster of_cluster binding role = cond cluster (cond of_cluster (BoundTo binding role) Unread) (BoundTo binding role)

kept_no_rules : (cluster of_cluster : Bool) (binding : Binding) (role : ObjectKey) → tag (kept_binding cluster of_cluster binding role) ≡ 0 → ⊥
kept_no_rules true true binding role is = omega arith
kept_no_rules true false binding role is = omega arith
kept_no_rules false of_cluster binding role is = omega arith

kept_parts : (cluster of_cluster : Bool) (binding b : Binding) (role r : ObjectKey) → kept_binding cluster of_cluster binding role ≡ BoundTo b r
    → (binding ≡ b) × (role ≡ r) × (cluster ≡ true → of_cluster ≡ true)
kept_parts true true binding b role r is = (ap (binding_of b) is, ap (role_of r) is, λ yes. refl)
kept_parts true false binding b role r is = absurd (less_apart 1 2 (omega arith) (sym (ap tag is)))
kept_parts false of_cluster binding b role r is = (ap (binding_of b) is, ap (role_of r) is, λ yes. cc)

kept_unread : (cluster of_cluster : Bool) (binding : Binding) (role : ObjectKey) → tag (kept_binding cluster of_cluster binding role) ≡ 2 → (cluster ≡ true) × (of_cluster ≡ false)
kept_unread true true binding role is = absurd (omega arith)
kept_unread true false binding role is = (refl, refl)
kept_unread false of_cluster binding role is = absurd (omega arith)

cluster_kind : (kind : Option Kind) → is_cluster_binding kind ≡ true → kind ≡ Some ClusterRoleBinding
cluster_kind None is = cc
cluster_kind (Some RoleKind) is = cc
cluster_kind (Some ClusterRole) is = cc
cluster_kind (Some RoleBinding) is = cc
cluster_kind (Some ClusterRoleBinding) is = refl

pub content_rules : (key : ObjectKey) (content : RbacContent) (rules : List PolicyRule) → content_of key content ≡ Rules rules → content ≡ Role rules
content_rules key (Role own) rules is = ap (λ r. Role r) (ap rules_of is)
content_rules key (Bound binding) rules is = absurd (kept_no_rules (is_cluster_binding (kind_of_key key)) binding.role_is_cluster binding (role_key key binding) (ap tag is))
content_rules key Unreadable rules is = absurd (less_apart 0 2 (omega arith) (sym (ap tag is)))

pub content_bound : (key : ObjectKey) (content : RbacContent) (binding : Binding) (role : ObjectKey) → content_of key content ≡ BoundTo binding role
    → IsBindingOf key content binding × (role ≡ role_key key binding)
content_bound key (Role own) binding role is = absurd (less_apart 0 1 (omega arith) (ap tag is))
content_bound key (Bound own) binding role is =
    let parts = kept_parts (is_cluster_binding (kind_of_key key)) own.role_is_cluster own binding (role_key key own) role is in (
      (ap (λ b. Bound b) parts.0, λ kind. subst (λ (b : Binding). b.role_is_cluster ≡ true) parts.0 (parts.2 (ap is_cluster_binding kind))),
      sym parts.1 ∙ ap (λ b. role_key key b) parts.0,
    )
content_bound key Unreadable binding role is = absurd (less_apart 1 2 (omega arith) (sym (ap tag is)))

pub no_binding_in_rules : (key : ObjectKey) (content : RbacContent) (rules : List PolicyRule) → content_of key content ≡ Rules rules → (x : Binding) → IsBindingOf key content x → ⊥
no_binding_in_rules key content rules is x read = let role = content_rules key content rules is in let bound = read.0 in cc

pub no_binding_unread : (key : ObjectKey) (content : RbacContent) → content_of key content ≡ Unread → (x : Binding) → IsBindingOf key content x → ⊥
no_binding_unread key (Role own) is x read = absurd (less_apart 0 2 (omega arith) (ap tag is))
no_binding_unread key (Bound own) is x read =
    let plain = kept_unread (is_cluster_binding (kind_of_key key)) own.role_is_cluster own (role_key key own) (ap tag is) in
    let cluster = read.1 (cluster_kind (kind_of_key key) plain.0) in
    let same : own ≡ x = ap (λ c. binding_in own c) read.0 in
    let no : x.role_is_cluster ≡ false = subst (λ (b : Binding). b.role_is_cluster ≡ false) same plain.1 in
    cc
no_binding_unread key Unreadable is x read = let no = read.0 in cc

pub no_rules_elsewhere : (key : ObjectKey) (content : RbacContent) (kept : Content) → content_of key content ≡ kept → (tag kept ≡ 0 → ⊥) → (x : List PolicyRule) → ReadsRules content x → ⊥
no_rules_elsewhere key content kept is not x read = not (ap tag (sym is) ∙ ap (λ c. tag (content_of key c)) read)

-- what an object grants whose latest version is read as `x`, or isn't read
module _ {X : Type 0} (reads : Reading X) (known : Known) (sound : AreSound known.versions known.ends) (key : ObjectKey) (place : ℕ) (grants : X → Type 0) (version : RbacVersion)
    (held : IsHeld reads known key place version) where
  must_certain : MustGrant reads known key place grants → IsCertain known place version
  must_certain must = ⊎_elim
      (λ began. absurd (must_gone reads known key place grants version began.0 held.latest began.1 began.2 must))
      (λ certain. certain)
      (decide_certain known place version)

  pub must_read_parts : (x : X) → reads version.content x → MustGrant reads known key place grants → IsCertain known place version × grants x
  must_read_parts x read must =
      let certain = must_certain must in
      (certain, must_there reads known key place grants version x held read (not_gone_from known sound place version certain) must)

  pub must_unread_not : ((x : X) → reads version.content x → ⊥) → MustGrant reads known key place grants → ⊥
  must_unread_not unread must = must_unread reads known key place grants version held unread (not_gone_from known sound place version (must_certain must)) must

abbrev pub rules_or : RbacContent → List PolicyRule
rules_or (Role rules) = rules
rules_or (Bound binding) = []
rules_or Unreadable = []

one_rules : (content : RbacContent) (rules : List PolicyRule) → content ≡ Role rules → (y : List PolicyRule) → ReadsRules content y → y ≡ rules
one_rules content rules is y read = ap rules_or (sym read ∙ is)

module _ (known : Known) (sound : AreSound known.versions known.ends) (key : ObjectKey) (place : ℕ) (attrs : RequestAttrs) (version : RbacVersion) (held : IsHeld ReadsRules known key place version) where
  abbrev by_rules : List PolicyRule → Type 0
  by_rules rules = Grants rules attrs

  pub role_may : (kept : Content) → content_of key version.content ≡ kept → IsNotGone known place version → MayGrantByRules attrs kept → MayGrantByRole known key place attrs
  role_may (Rules rules) is there grants = may_read ReadsRules known key place by_rules version rules held (content_rules key version.content rules is) there grants
  role_may (BoundTo binding role) is there grants = may_unread ReadsRules known key place by_rules version held (no_rules_elsewhere key version.content (BoundTo binding role) is (λ no. omega arith)) there
  role_may Unread is there grants = may_unread ReadsRules known key place by_rules version held (no_rules_elsewhere key version.content Unread is (λ no. omega arith)) there

  pub role_may_parts : (kept : Content) → content_of key version.content ≡ kept → MayGrantByRole known key place attrs → IsNotGone known place version × MayGrantByRules attrs kept
  role_may_parts (Rules rules) is may =
      let read = content_rules key version.content rules is in
      read_there ReadsRules known key place by_rules version rules held read (one_rules version.content rules read) may
  role_may_parts (BoundTo binding role) is may =
      (unread_there ReadsRules known key place by_rules version held (no_rules_elsewhere key version.content (BoundTo binding role) is (λ no. omega arith)) may, tt)
  role_may_parts Unread is may = (unread_there ReadsRules known key place by_rules version held (no_rules_elsewhere key version.content Unread is (λ no. omega arith)) may, tt)

  pub role_must : (kept : Content) → content_of key version.content ≡ kept → IsCertain known place version → MustGrantByRules attrs kept → MustGrantByRole known key place attrs
  role_must (Rules rules) is certain grants =
      let read = content_rules key version.content rules is in
      must_read ReadsRules known key place by_rules version rules held read (one_rules version.content rules read) certain grants
  role_must (BoundTo binding role) is certain grants = absurd grants
  role_must Unread is certain grants = absurd grants

  pub role_must_parts : (kept : Content) → content_of key version.content ≡ kept → MustGrantByRole known key place attrs → IsCertain known place version × MustGrantByRules attrs kept
  role_must_parts (Rules rules) is must = must_read_parts ReadsRules known sound key place by_rules version held rules (content_rules key version.content rules is) must
  role_must_parts (BoundTo binding role) is must =
      absurd (must_unread_not ReadsRules known sound key place by_rules version held (no_rules_elsewhere key version.content (BoundTo binding role) is (λ no. omega arith)) must)
  role_must_parts Unread is must =
      absurd (must_unread_not ReadsRules known sound key place by_rules version held (no_rules_elsewhere key version.content Unread is (λ no. omega arith)) must)

pub one_binding : (key : ObjectKey) (content : RbacContent) (binding : Binding) → IsBindingOf key content binding → (y : Binding) → IsBindingOf key content y → y ≡ binding
one_binding key content binding is y read = ap (λ c. binding_in binding c) (sym read.0 ∙ is.0)

module _ (known : Known) (sound : AreSound known.versions known.ends) (key : ObjectKey) (way : Way) (role_place binding_place : ℕ) (who : User) (attrs : RequestAttrs) (version : RbacVersion)
    (held : IsHeld (IsBindingOf key) known key binding_place version) where
  abbrev may_by : Binding → Type 0
  may_by binding = IsSubject way key who binding × MayGrantByRole known (role_key key binding) role_place attrs

  abbrev must_by : Binding → Type 0
  must_by binding = IsSubject way key who binding × MustGrantByRole known (role_key key binding) role_place attrs

  pub binding_may : (kept : Content) → content_of key version.content ≡ kept → IsNotGone known binding_place version → MayGrantByContent known way role_place who attrs kept
      → MayGrantByKey known way role_place binding_place who attrs key
  binding_may (Rules rules) is there grants = may_unread (IsBindingOf key) known key binding_place may_by version held (no_binding_in_rules key version.content rules is) there
  binding_may (BoundTo binding role) is there grants =
      let bound = content_bound key version.content binding role is in
      may_read (IsBindingOf key) known key binding_place may_by version binding held bound.0 there
      (record { role_kind = subst (λ k. IsKeyOf (roles_in way) k) bound.1 grants.0; matches = grants.1 }, subst (λ k. MayGrantByRole known k role_place attrs) bound.1 grants.2)
  binding_may Unread is there grants = may_unread (IsBindingOf key) known key binding_place may_by version held (no_binding_unread key version.content is) there

  pub binding_may_parts : (kept : Content) → content_of key version.content ≡ kept → MayGrantByKey known way role_place binding_place who attrs key
      → IsNotGone known binding_place version × MayGrantByContent known way role_place who attrs kept
  binding_may_parts (Rules rules) is may = (unread_there (IsBindingOf key) known key binding_place may_by version held (no_binding_in_rules key version.content rules is) may, tt)
  binding_may_parts (BoundTo binding role) is may =
      let bound = content_bound key version.content binding role is in
      let parts = read_there (IsBindingOf key) known key binding_place may_by version binding held bound.0 (one_binding key version.content binding bound.0) may in
      (parts.0, (subst (λ k. IsKeyOf (roles_in way) k) (sym bound.1) parts.1.0.role_kind, parts.1.0.matches, subst (λ k. MayGrantByRole known k role_place attrs) (sym bound.1) parts.1.1))
  binding_may_parts Unread is may = (unread_there (IsBindingOf key) known key binding_place may_by version held (no_binding_unread key version.content is) may, tt)

  pub binding_must : (kept : Content) → content_of key version.content ≡ kept → IsCertain known binding_place version → MustGrantByContent known way role_place who attrs kept
      → MustGrantByKey known way role_place binding_place who attrs key
  binding_must (Rules rules) is certain grants = absurd grants
  binding_must (BoundTo binding role) is certain grants =
      let bound = content_bound key version.content binding role is in
      must_read (IsBindingOf key) known key binding_place must_by version binding held bound.0 (one_binding key version.content binding bound.0) certain
      (record { role_kind = subst (λ k. IsKeyOf (roles_in way) k) bound.1 grants.0; matches = grants.1 }, subst (λ k. MustGrantByRole known k role_place attrs) bound.1 grants.2)
  binding_must Unread is certain grants = absurd grants

  pub binding_must_parts : (kept : Content) → content_of key version.content ≡ kept → MustGrantByKey known way role_place binding_place who attrs key
      → IsCertain known binding_place version × MustGrantByContent known way role_place who attrs kept
  binding_must_parts (Rules rules) is must = absurd (must_unread_not (IsBindingOf key) known sound key binding_place must_by version held (no_binding_in_rules key version.content rules is) must)
  binding_must_parts (BoundTo binding role) is must =
      let bound = content_bound key version.content binding role is in
      let parts = must_read_parts (IsBindingOf key) known sound key binding_place must_by version held binding bound.0 must in
      (parts.0, (subst (λ k. IsKeyOf (roles_in way) k) (sym bound.1) parts.1.0.role_kind, parts.1.0.matches, subst (λ k. MustGrantByRole known k role_place attrs) (sym bound.1) parts.1.1))
  binding_must_parts Unread is must = absurd (must_unread_not (IsBindingOf key) known sound key binding_place must_by version held (no_binding_unread key version.content is) must)

-- a test of two parts
pub test_of_both : (a b r : Bool) (A B C : Type 0) → r ≡ (a && b) → ((a ≡ true) ↔ A) → ((b ≡ true) ↔ B) → (A → B → C) → (C → A × B) → (r ≡ true) ↔ C
test_of_both a b r A B C is of_a of_b join parts = (
  (λ passed. let both = and_parts a b (sym is ∙ passed) in join (of_a.0 both.0) (of_b.0 both.1)),
  (λ all. let both = parts all in is ∙ and_from a b (of_a.1 both.0) (of_b.1 both.1)),
)
