-- The tests of states tell what roles and bindings may grant, and what they grant for certain.
use Rattle.std.proofs.Common.{◌≡◌, ℕ, ◌<◌, ◌≤◌, ◌⊎◌, ⊎_elim, inl, inr, Bool, true, false, not, ◌&&◌, ◌||◌, ◌==◌, List, Option, Some, None, Decides, refl, sym, subst}
use Rattle.std.specs.Prelude.{nat_le, nat_lt}
use Rattle.std.specs.List.{Any, Contains, list_all, list_any}
use Rattle.std.proofs.lemmas.Bool.{cases_Bool, le-leb, leb-true}
use Rattle.std.proofs.lemmas.Bool.Decides.{Decides-and, Decides-eqb, Decides-like, Decides-ltb, Decides-not, Decides-or, not_from_Decides}
use Rattle.base_types.proofs.Quantifiers.{Any-contains}
use Rattle.base_types.specs.declared.kubernetes.key.ObjectKey.{ObjectKey}
use Rattle.base_types.specs.declared.verdict.placed.Places.{Places}
use Rattle.base_types.specs.declared.kubernetes.request.RequestAttrs.{RequestAttrs}
use Rattle.base_types.specs.declared.kubernetes.request.User.{User}
use Rattle.clouds.specs.Clouds.{IsClouded}
use Rattle.rbac_rules.specs.declared.binding.Binding.{Binding}
use Rattle.rbac_rules.specs.Granting.{Grants}
use Rattle.rbac_timeline.specs.declared.kind.Kind.{Kind}
use Rattle.rbac_timeline.specs.declared.kind.Kind.TheVariants.{Role as RoleKind, ClusterRole, RoleBinding, ClusterRoleBinding}
use Rattle.rbac_timeline.specs.declared.version.RbacContent.{RbacContent}
use Rattle.rbac_timeline.specs.declared.version.RbacContent.TheVariants.{Bound, Role, Unreadable}
use Rattle.rbac_timeline.specs.declared.version.RbacEnd.{RbacEnd}
use Rattle.rbac_timeline.specs.declared.version.RbacVersion.{RbacVersion}
use Rattle.rbac_timeline.specs.Deciding.{bound_may_grant, bound_must_grant, cache_place, is_certain, is_end_of, is_latest, is_not_gone, is_sound_bound, is_version, may_pass, must_pass, role_may_grant, role_must_grant, rules_may_grant, rules_must_grant}
use Rattle.rbac_timeline.specs.Extents.{IsCertain, IsNotGone, MayGrant, MustGrant}
use Rattle.base_types.specs.Keys.{same_key}
use Rattle.rbac_timeline.specs.Hidden.{is_clouded}
use Rattle.rbac_timeline.specs.Kinds.{IsBindingOf, IsKeyOf, is_cluster_binding, kind_of_key, role_key}
use Rattle.rbac_timeline.specs.Known.{Known, writes_of}
use Rattle.rbac_timeline.specs.Requests.{grants, means}
use Rattle.rbac_timeline.specs.Sound.{AreSound}
use Rattle.rbac_timeline.specs.States.{By, Everything, IsEndOf, IsLatestVersion, Nothing, NoneUpto, Reading, ReadsRules}
use Rattle.rbac_timeline.proofs.Choosing.{MayGrantBy, MustGrantBy}
use Rattle.rbac_timeline.proofs.Decided.{decide_clouded, latest_or_none}
use Rattle.rbac_timeline.proofs.Extremes.{IsRead, decide_certain, held_from, not_gone_from, read_binding, read_rules}
use Rattle.rbac_timeline.proofs.Granting.{IsHeld, must_clouded, must_gone, must_missing, must_read, must_there, must_unread}
use Rattle.rbac_timeline.proofs.Hiding.{is_clouded-Decides, same_key-Decides}
use Rattle.rbac_timeline.proofs.Requested.{any_meant-Decides, grants-Decides}
use Rattle.rbac_timeline.proofs.Telling.{Decides-all, Decides-any, Decides-flag, Decides-implies}

pub Decides-leb : (a b : ℕ) → Decides (nat_le a b) (a ≤ b)
Decides-leb a b = (leb-true a b, le-leb a b)

abbrev IsVersionUpto : ObjectKey → ℕ → RbacVersion → Type 0
IsVersionUpto key place version = (version.key ≡ key) × (version.revision ≤ place)

is_version-Decides : (key : ObjectKey) (place : ℕ) (version : RbacVersion) → Decides (is_version key place version) (IsVersionUpto key place version)
is_version-Decides key place version =
    Decides-and (same_key version.key key) (nat_le version.revision place) (same_key-Decides version.key key) (Decides-leb version.revision place)

-- the version is of the key and upto the place, and no other is later
abbrev IsLastOf : List RbacVersion → ObjectKey → ℕ → RbacVersion → Type 0
IsLastOf versions key place version = IsVersionUpto key place version
    × ((other : RbacVersion) → Contains versions other → IsVersionUpto key place other → other.revision ≤ version.revision)

is_latest-Decides : (versions : List RbacVersion) (key : ObjectKey) (place : ℕ) (version : RbacVersion) → Decides (is_latest versions key place version) (IsLastOf versions key place version)
is_latest-Decides versions key place version =
    Decides-and (is_version key place version) (list_all (λ other. not (is_version key place other) || nat_le other.revision version.revision) versions)
    (is_version-Decides key place version)
    (Decides-all (λ other. not (is_version key place other) || nat_le other.revision version.revision) (λ other. IsVersionUpto key place other → other.revision ≤ version.revision)
    (λ other. Decides-implies (is_version key place other) (nat_le other.revision version.revision) (is_version-Decides key place other) (Decides-leb other.revision version.revision))
    versions)

latest_from : (versions : List RbacVersion) (key : ObjectKey) (place : ℕ) (version : RbacVersion) → Contains versions version → IsLastOf versions key place version → IsLatestVersion versions key place version
latest_from versions key place version among last =
    record { known = among; of_key = last.0.0; upto = last.0.1; latest = λ other in_all of_key upto. last.1 other in_all (of_key, upto) }

last_from : (versions : List RbacVersion) (key : ObjectKey) (place : ℕ) (version : RbacVersion) → IsLatestVersion versions key place version → IsLastOf versions key place version
last_from versions key place version latest = ((latest.of_key, latest.upto), (λ other among of. latest.latest other among of.0 of.1))

abbrev IsEndBy : RbacVersion → RbacEnd → Type 0
IsEndBy version end = (end.key ≡ version.key) × (end.last ≡ version.revision)

is_end_of-Decides : (version : RbacVersion) (end : RbacEnd) → Decides (is_end_of version end) (IsEndBy version end)
is_end_of-Decides version end =
    Decides-and (same_key end.key version.key) (end.last == version.revision) (same_key-Decides end.key version.key) (Decides-eqb end.last version.revision)

-- each removal of the version is behind the place, by one of its numbers
module _ (known : Known) (place : ℕ) (version : RbacVersion) (number : RbacEnd → ℕ) where
  each_end-Decides : Decides (list_all (λ end. not (is_end_of version end) || nat_lt place (number end)) known.ends) ((end : RbacEnd) → IsEndOf known.ends version end → place < number end)
  each_end-Decides =
      let told = Decides-all (λ end. not (is_end_of version end) || nat_lt place (number end)) (λ end. IsEndBy version end → place < number end)
      (λ end. Decides-implies (is_end_of version end) (nat_lt place (number end)) (is_end_of-Decides version end) (Decides-ltb place (number end))) known.ends in (
        (λ yes end is. told.0 yes end is.known (is.of_key, is.of_last)),
        (λ each. told.1 (λ end among by. each end (record { known = among; of_key = by.0; of_last = by.1 }))),
      )

is_not_gone-Decides : (known : Known) (place : ℕ) (version : RbacVersion) → Decides (is_not_gone known.ends place version) (IsNotGone known place version)
is_not_gone-Decides known place version = each_end-Decides known place version (λ end. end.high)

is_certain-Decides : (known : Known) (place : ℕ) (version : RbacVersion) → Decides (is_certain known.ends place version) (IsCertain known place version)
is_certain-Decides known place version = each_end-Decides known place version (λ end. end.low)

-- what is read of a version grants for certain, and it may grant where nothing is read
abbrev MustByContent : {X : Type 0} → Reading X → (X → Type 0) → RbacContent → Type 0
MustByContent {X} reads grants content = (x : X) × reads content x × grants x

abbrev MayByContent : {X : Type 0} → Reading X → (X → Type 0) → RbacContent → Type 0
MayByContent {X} reads grants content = MustByContent reads grants content ⊎ ((x : X) → reads content x → ⊥)

module _ {X : Type 0} (reads : Reading X) (known : Known) (key : ObjectKey) (place : ℕ) (grants : X → Type 0) where
  abbrev MayByVersion : RbacVersion → Type 0
  MayByVersion version = IsLastOf known.versions key place version × (IsNotGone known place version × MayByContent reads grants version.content)

  abbrev MustByVersion : RbacVersion → Type 0
  MustByVersion version = IsLastOf known.versions key place version × (IsCertain known place version × MustByContent reads grants version.content)

  by_content : (version : RbacVersion) → (IsClouded (writes_of known) key place → ⊥) → IsLatestVersion known.versions key place version → IsNotGone known place version
      → MayByContent reads grants version.content → MayGrant reads known key place grants
  by_content version clear latest there (inl (x, read, granted)) = (By x, (clear, (version, record { latest = latest; not_gone = there }, read)), granted)
  by_content version clear latest there (inr unread) = (Everything, inr (version, record { latest = latest; not_gone = there }, unread), tt)

  may_from : IsClouded (writes_of known) key place ⊎ Any MayByVersion known.versions → MayGrant reads known key place grants
  may_from (inl clouded) = (Everything, inl clouded, tt)
  may_from (inr any) = ⊎_elim
      (λ clouded. (Everything, inl clouded, tt))
      (λ clear. by_content any.1 clear (latest_from known.versions key place any.1 (any.0, any.2, any.3) any.4.0) any.4.1.0 any.4.1.1)
      (decide_clouded (writes_of known) key place)

  version_from : (version : RbacVersion) → IsLatestVersion known.versions key place version → IsNotGone known place version → MayByContent reads grants version.content → Any MayByVersion known.versions
  version_from version latest there content = Any-contains MayByVersion known.versions version latest.known (last_from known.versions key place version latest, (there, content))

  from_may : MayGrant reads known key place grants → IsClouded (writes_of known) key place ⊎ Any MayByVersion known.versions
  from_may (Nothing, is, granted) = absurd granted
  from_may (By x, is, granted) = inr (version_from is.1.0 is.1.1.latest is.1.1.not_gone (inl (x, is.1.2, granted)))
  from_may (Everything, inl clouded, granted) = inl clouded
  from_may (Everything, inr (version, there, unread), granted) = inr (version_from version there.latest there.not_gone (inr unread))

  pub may_pass-Decides : (passes : RbacContent → Bool) → ((content : RbacContent) → Decides (passes content) (MayByContent reads grants content))
      → Decides (may_pass known key place passes) (MayGrant reads known key place grants)
  may_pass-Decides passes tells =
      let told = Decides-any (λ version. is_latest known.versions key place version && (is_not_gone known.ends place version && passes version.content)) MayByVersion
      (λ version. Decides-and (is_latest known.versions key place version) (is_not_gone known.ends place version && passes version.content) (is_latest-Decides known.versions key place version)
      (Decides-and (is_not_gone known.ends place version) (passes version.content) (is_not_gone-Decides known place version) (tells version.content))) known.versions in
      Decides-like (may_pass known key place passes) may_from from_may
      (Decides-or (is_clouded (writes_of known) key place) (list_any (λ version. is_latest known.versions key place version && (is_not_gone known.ends place version && passes version.content)) known.versions)
      (is_clouded-Decides (writes_of known) key place) told)

  module _ (sound : AreSound known.versions known.ends) (read : (content : RbacContent) → IsRead reads content) where
    must_by : (version : RbacVersion) → IsHeld reads known key place version → IsCertain known place version → IsRead reads version.content → MustByContent reads grants version.content
        → MustGrant reads known key place grants
    must_by version held certain (inl (x, is, one)) by = must_read reads known key place grants version x held is one certain (subst grants (one by.0 by.1) by.2)
    must_by version held certain (inr unread) by = absurd (unread by.0 by.1)

    must_from : (IsClouded (writes_of known) key place → ⊥) × Any MustByVersion known.versions → MustGrant reads known key place grants
    must_from both =
        let any = both.1 in
        must_by any.1 (held_from reads known sound key place any.1 both.0 (latest_from known.versions key place any.1 (any.0, any.2, any.3) any.4.0)) any.4.1.0 (read any.1.content) any.4.1.1

    of_read : (version : RbacVersion) → IsHeld reads known key place version → IsCertain known place version → IsRead reads version.content → MustGrant reads known key place grants
        → Any MustByVersion known.versions
    of_read version held certain (inl (x, is, one)) must =
        Any-contains MustByVersion known.versions version held.latest.known (
          last_from known.versions key place version held.latest,
          (certain, (x, is, must_there reads known key place grants version x held is (not_gone_from known sound place version certain) must)),
        )
    of_read version held certain (inr unread) must = absurd (must_unread reads known key place grants version held unread (not_gone_from known sound place version certain) must)

    of_latest : (version : RbacVersion) → IsHeld reads known key place version → ((end : RbacEnd) × IsEndOf known.ends version end × (end.low ≤ place)) ⊎ IsCertain known place version
        → MustGrant reads known key place grants → Any MustByVersion known.versions
    of_latest version held (inl (end, is, began)) must = absurd (must_gone reads known key place grants version end held.latest is began must)
    of_latest version held (inr certain) must = of_read version held certain (read version.content) must

    of_clear : (IsClouded (writes_of known) key place → ⊥) → ((version : RbacVersion) × IsLatestVersion known.versions key place version) ⊎ NoneUpto known.versions key place
        → MustGrant reads known key place grants → Any MustByVersion known.versions
    of_clear clear (inl (version, latest)) must = of_latest version (held_from reads known sound key place version clear latest) (decide_certain known place version) must
    of_clear clear (inr none) must = absurd (must_missing reads known key place grants none must)

    from_must : MustGrant reads known key place grants → (IsClouded (writes_of known) key place → ⊥) × Any MustByVersion known.versions
    from_must must =
        let clear = λ (clouded : IsClouded (writes_of known) key place). must_clouded reads known key place grants clouded must in
        (clear, of_clear clear (latest_or_none known.versions key place) must)

    pub must_pass-Decides : (passes : RbacContent → Bool) → ((content : RbacContent) → Decides (passes content) (MustByContent reads grants content))
        → Decides (must_pass known key place passes) (MustGrant reads known key place grants)
    must_pass-Decides passes tells =
        let told = Decides-any (λ version. is_latest known.versions key place version && (is_certain known.ends place version && passes version.content)) MustByVersion
        (λ version. Decides-and (is_latest known.versions key place version) (is_certain known.ends place version && passes version.content) (is_latest-Decides known.versions key place version)
        (Decides-and (is_certain known.ends place version) (passes version.content) (is_certain-Decides known place version) (tells version.content))) known.versions in
        Decides-like (must_pass known key place passes) must_from from_must
        (Decides-and (not (is_clouded (writes_of known) key place)) (list_any (λ version. is_latest known.versions key place version && (is_certain known.ends place version && passes version.content)) known.versions)
        (Decides-not (is_clouded (writes_of known) key place) (is_clouded-Decides (writes_of known) key place)) told)

rules_may_grant-Decides : (attrs : RequestAttrs) (content : RbacContent) → Decides (rules_may_grant attrs content) (MayByContent ReadsRules (λ rules. Grants rules attrs) content)
rules_may_grant-Decides attrs (Role rules) = (
  (λ yes. inl (rules, refl, (grants-Decides attrs rules).0 yes)),
  (λ may. ⊎_elim
      (λ by. let same : rules ≡ by.0 = (let is = by.1 in cc) in (grants-Decides attrs rules).1 (subst (λ r. Grants r attrs) (sym same) by.2))
      (λ unread. absurd (unread rules refl))
      may),
)
rules_may_grant-Decides attrs (Bound binding) = ((λ yes. inr (λ x is. cc)), (λ may. refl))
rules_may_grant-Decides attrs Unreadable = ((λ yes. inr (λ x is. cc)), (λ may. refl))

rules_must_grant-Decides : (attrs : RequestAttrs) (content : RbacContent) → Decides (rules_must_grant attrs content) (MustByContent ReadsRules (λ rules. Grants rules attrs) content)
rules_must_grant-Decides attrs (Role rules) = (
  (λ yes. (rules, refl, (grants-Decides attrs rules).0 yes)),
  (λ by. let same : rules ≡ by.0 = (let is = by.1 in cc) in (grants-Decides attrs rules).1 (subst (λ r. Grants r attrs) (sym same) by.2)),
)
rules_must_grant-Decides attrs (Bound binding) = ((λ yes. absurd (cc)), (λ by. let is = by.1 in cc))
rules_must_grant-Decides attrs Unreadable = ((λ yes. absurd (cc)), (λ by. let is = by.1 in cc))

is_cluster_binding-Decides : (kind : Option Kind) → Decides (is_cluster_binding kind) (kind ≡ Some ClusterRoleBinding)
is_cluster_binding-Decides None = ((λ yes. absurd (cc)), (λ is. cc))
is_cluster_binding-Decides (Some RoleKind) = ((λ yes. absurd (cc)), (λ is. cc))
is_cluster_binding-Decides (Some ClusterRole) = ((λ yes. absurd (cc)), (λ is. cc))
is_cluster_binding-Decides (Some RoleBinding) = ((λ yes. absurd (cc)), (λ is. cc))
is_cluster_binding-Decides (Some ClusterRoleBinding) = ((λ yes. refl), (λ is. refl))

is_sound_bound-Decides : (key : ObjectKey) (binding : Binding) → Decides (is_sound_bound key binding) (IsKeyOf ClusterRoleBinding key → binding.role_is_cluster ≡ true)
is_sound_bound-Decides key binding =
    Decides-implies (is_cluster_binding (kind_of_key key)) binding.role_is_cluster (is_cluster_binding-Decides (kind_of_key key)) (Decides-flag binding.role_is_cluster)

module _ (known : Known) (sound : AreSound known.versions known.ends) (places : Places) (attrs : RequestAttrs) where
  role_may_grant-Decides : (role : ObjectKey) → Decides (role_may_grant known places attrs role) (MayGrant ReadsRules known role (cache_place (kind_of_key role) places) (λ rules. Grants rules attrs))
  role_may_grant-Decides role =
      may_pass-Decides ReadsRules known role (cache_place (kind_of_key role) places) (λ rules. Grants rules attrs) (rules_may_grant attrs) (rules_may_grant-Decides attrs)

  role_must_grant-Decides : (role : ObjectKey) → Decides (role_must_grant known places attrs role) (MustGrant ReadsRules known role (cache_place (kind_of_key role) places) (λ rules. Grants rules attrs))
  role_must_grant-Decides role =
      must_pass-Decides ReadsRules known role (cache_place (kind_of_key role) places) (λ rules. Grants rules attrs) sound read_rules (rules_must_grant attrs) (rules_must_grant-Decides attrs)

  module _ (who : User) (key : ObjectKey) where
    abbrev named_may : Binding → Bool
    named_may binding = list_any (means who) binding.subjects && role_may_grant known places attrs (role_key key binding)

    abbrev named_must : Binding → Bool
    named_must binding = list_any (means who) binding.subjects && role_must_grant known places attrs (role_key key binding)

    named_may-Decides : (binding : Binding) → Decides (named_may binding) (MayGrantBy known places key who attrs binding)
    named_may-Decides binding =
        Decides-and (list_any (means who) binding.subjects) (role_may_grant known places attrs (role_key key binding)) (any_meant-Decides who binding.subjects)
        (role_may_grant-Decides (role_key key binding))

    named_must-Decides : (binding : Binding) → Decides (named_must binding) (MustGrantBy known places key who attrs binding)
    named_must-Decides binding =
        Decides-and (list_any (means who) binding.subjects) (role_must_grant known places attrs (role_key key binding)) (any_meant-Decides who binding.subjects)
        (role_must_grant-Decides (role_key key binding))

    -- a binding that can be read says what it grants
    bound_cases : (binding : Binding) → (is_sound_bound key binding ≡ true) ⊎ (is_sound_bound key binding ≡ false)
        → ((IsKeyOf ClusterRoleBinding key → binding.role_is_cluster ≡ true) → MayGrantBy known places key who attrs binding)
        → MayByContent (IsBindingOf key) (MayGrantBy known places key who attrs) (Bound binding)
    bound_cases binding (inl plainly) gives = let plain = (is_sound_bound-Decides key binding).0 plainly in inl (binding, (refl, plain), gives plain)
    bound_cases binding (inr fails) gives = inr (λ x is.
        let same : binding ≡ x = (let e = is.0 in cc) in
        not_from_Decides (is_sound_bound key binding) (is_sound_bound-Decides key binding) fails
        (λ kind. subst (λ (b : Binding). b.role_is_cluster ≡ true) (sym same) (is.1 kind)))

    bound_gives : (binding : Binding) → MayByContent (IsBindingOf key) (MayGrantBy known places key who attrs) (Bound binding)
        → (IsKeyOf ClusterRoleBinding key → binding.role_is_cluster ≡ true) → MayGrantBy known places key who attrs binding
    bound_gives binding (inl by) plain = let same : binding ≡ by.0 = (let is = by.1.0 in cc) in subst (MayGrantBy known places key who attrs) (sym same) by.2
    bound_gives binding (inr unread) plain = absurd (unread binding (refl, plain))

    bound_may_grant-Decides : (content : RbacContent) → Decides (bound_may_grant known places who attrs key content) (MayByContent (IsBindingOf key) (MayGrantBy known places key who attrs) content)
    bound_may_grant-Decides (Role rules) = ((λ yes. inr (λ x is. let e = is.0 in cc)), (λ may. refl))
    bound_may_grant-Decides Unreadable = ((λ yes. inr (λ x is. let e = is.0 in cc)), (λ may. refl))
    bound_may_grant-Decides (Bound binding) =
        Decides-like (not (is_sound_bound key binding) || named_may binding) (bound_cases binding (cases_Bool (is_sound_bound key binding))) (bound_gives binding)
        (Decides-implies (is_sound_bound key binding) (named_may binding) (is_sound_bound-Decides key binding) (named_may-Decides binding))

    bound_must : (binding : Binding) → MustByContent (IsBindingOf key) (MustGrantBy known places key who attrs) (Bound binding)
        → (IsKeyOf ClusterRoleBinding key → binding.role_is_cluster ≡ true) × MustGrantBy known places key who attrs binding
    bound_must binding by =
        let same : binding ≡ by.0 = (let is = by.1.0 in cc) in
        ((λ kind. subst (λ (b : Binding). b.role_is_cluster ≡ true) (sym same) (by.1.1 kind)), subst (MustGrantBy known places key who attrs) (sym same) by.2)

    bound_must_grant-Decides : (content : RbacContent) → Decides (bound_must_grant known places who attrs key content) (MustByContent (IsBindingOf key) (MustGrantBy known places key who attrs) content)
    bound_must_grant-Decides (Role rules) = ((λ yes. absurd (cc)), (λ by. let is = by.1.0 in cc))
    bound_must_grant-Decides Unreadable = ((λ yes. absurd (cc)), (λ by. let is = by.1.0 in cc))
    bound_must_grant-Decides (Bound binding) =
        Decides-like (is_sound_bound key binding && named_must binding) (λ both. (binding, (refl, both.0), both.1)) (bound_must binding)
        (Decides-and (is_sound_bound key binding) (named_must binding) (is_sound_bound-Decides key binding) (named_must-Decides binding))

    pub binding_may-Decides : Decides (may_pass known key (cache_place (kind_of_key key) places) (bound_may_grant known places who attrs key))
        (MayGrant (IsBindingOf key) known key (cache_place (kind_of_key key) places) (MayGrantBy known places key who attrs))
    binding_may-Decides =
        may_pass-Decides (IsBindingOf key) known key (cache_place (kind_of_key key) places) (MayGrantBy known places key who attrs) (bound_may_grant known places who attrs key) bound_may_grant-Decides

    pub binding_must-Decides : Decides (must_pass known key (cache_place (kind_of_key key) places) (bound_must_grant known places who attrs key))
        (MustGrant (IsBindingOf key) known key (cache_place (kind_of_key key) places) (MustGrantBy known places key who attrs))
    binding_must-Decides = must_pass-Decides (IsBindingOf key) known key (cache_place (kind_of_key key) places) (MustGrantBy known places key who attrs) sound (read_binding key)
        (bound_must_grant known places who attrs key) bound_must_grant-Decides
