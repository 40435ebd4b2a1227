-- The possible state of an object that grants least, and the one that grants most.
use Rattle.std.proofs.Common.{◌≡◌, ℕ, ◌<◌, ◌≤◌, ◌⊎◌, ⊎_elim, inl, inr, false, Option, Some, None, List, [], get_or, refl, sym, ◌∙◌, subst, ap, arith}
use Rattle.std.specs.List.{AllPairs, Contains}
use Rattle.std.specs.declared.cmp.Ordering.{Ordering}
use Rattle.std.specs.declared.cmp.Ordering.TheVariants.{Equal, Greater, Less}
use Rattle.std.proofs.lemmas.Bool.{cases_Bool, cases_eq, cases_lt, cases_order}
use Rattle.std.proofs.lemmas.Cmp.{tied_itself}
use Rattle.std.proofs.lemmas.List.{get_or_default}
use Rattle.std.proofs.lemmas.List.Elements.{All-contains}
use Rattle.base_types.specs.declared.kubernetes.key.ObjectKey.{ObjectKey}
use Rattle.clouds.proofs.Adding.{key_order_total}
use Rattle.clouds.specs.Clouds.{IsClouded}
use Rattle.rbac_rules.specs.declared.binding.Binding.{Binding}
use Rattle.rbac_rules.specs.declared.role.PolicyRule.{PolicyRule}
use Rattle.rbac_timeline.specs.declared.kind.Kind.{Kind}
use Rattle.rbac_timeline.specs.declared.kind.Kind.TheVariants.{Role as RoleKind, ClusterRole, RoleBinding, ClusterRoleBinding}
use Rattle.rbac_timeline.specs.declared.version.RbacContent.{RbacContent}
use Rattle.rbac_timeline.specs.declared.version.RbacContent.TheVariants.{Bound, Role, Unreadable}
use Rattle.rbac_timeline.specs.declared.version.RbacEnd.{RbacEnd}
use Rattle.rbac_timeline.specs.declared.version.RbacVersion.{RbacVersion}
use Rattle.clouds.specs.Kept.{key_order}
use Rattle.rbac_timeline.specs.Kinds.{IsBindingOf, kind_of_key}
use Rattle.rbac_timeline.specs.Known.{Known, writes_of}
use Rattle.rbac_timeline.specs.Sound.{AreSound, IsBefore, IsSoundEnd}
use Rattle.rbac_timeline.specs.States.{By, Everything, IsEndOf, IsGranted, IsLatestVersion, IsState, NoneUpto, Nothing, Reading, ReadsRules, State, gone, not_yet}
use Rattle.rbac_timeline.proofs.Decided.{Decided, decide_any, decide_clouded, decide_key, latest_or_none}
use Rattle.rbac_timeline.specs.Extents.{IsCertain, IsNotGone, MayGrant, MustGrant}
use Rattle.rbac_timeline.proofs.Granting.{IsHeld, may_missing, must_read, read_there, unread_there}

equal_not_less : (o : Ordering) → o ≡ Equal → o ≡ Less → ⊥
equal_not_less Less is other = cc
equal_not_less Equal is other = cc
equal_not_less Greater is other = cc

not_before : (a b : RbacVersion) → a.key ≡ b.key → a.revision ≡ b.revision → IsBefore a b → ⊥
not_before a b key revision (inl less) =
    equal_not_less (key_order a.key a.key) (tied_itself key_order_total a.key) (subst (λ k. key_order a.key k ≡ Less) (sym key) less)
not_before a b key revision (inr later) = let up : a.revision < b.revision = later.1 in omega arith

-- a key and a revision have one version
pub one_version : (versions : List RbacVersion) → AllPairs IsBefore versions → (a b : RbacVersion) → Contains versions a → Contains versions b → a.key ≡ b.key → a.revision ≡ b.revision → a ≡ b
one_version versions rising a b in_a in_b key revision = ⊎_elim
    (λ same. sym in_a.2 ∙ ap (λ k. get_or versions k a) same ∙ get_or_default versions in_b.0 a b in_b.1 ∙ in_b.2)
    (λ apart. ⊎_elim
    (λ before. absurd (not_before a b key revision (subst (λ (v : RbacVersion). IsBefore v b) in_a.2
    (subst (λ (v : RbacVersion). IsBefore (get_or versions in_a.0 a) v) (get_or_default versions in_b.0 a b in_b.1 ∙ in_b.2) (rising in_a.0 in_b.0 a before in_b.1)))))
    (λ behind. absurd (not_before b a (sym key) (sym revision) (subst (λ (v : RbacVersion). IsBefore v a) in_b.2
    (subst (λ (v : RbacVersion). IsBefore (get_or versions in_b.0 b) v) (get_or_default versions in_a.0 b a in_a.1 ∙ in_a.2) (rising in_b.0 in_a.0 b behind in_a.1)))))
    apart)
    (cases_order in_a.0 in_b.0)

pub one_latest : (versions : List RbacVersion) → AllPairs IsBefore versions → (key : ObjectKey) (place : ℕ) (a b : RbacVersion)
    → IsLatestVersion versions key place a → IsLatestVersion versions key place b → a ≡ b
one_latest versions rising key place a b is_a is_b =
    let ab : a.revision ≤ b.revision = is_b.latest a is_a.known is_a.of_key is_a.upto in
    let ba : b.revision ≤ a.revision = is_a.latest b is_b.known is_b.of_key is_b.upto in
    one_version versions rising a b is_a.known is_b.known (is_a.of_key ∙ sym is_b.of_key) (omega arith)

pub held_from : {X : Type 0} (reads : Reading X) (known : Known) → AreSound known.versions known.ends → (key : ObjectKey) (place : ℕ) (version : RbacVersion)
    → (IsClouded (writes_of known) key place → ⊥) → IsLatestVersion known.versions key place version → IsHeld reads known key place version
held_from reads known sound key place version clear latest =
    record { clear = clear; latest = latest; only = λ other is. one_latest known.versions sound.rising key place other version is latest }

-- the removal of this version may have been by the place
abbrev BeganBy : RbacVersion → ℕ → RbacEnd → Type 0
BeganBy version place end = (end.key ≡ version.key) × (end.last ≡ version.revision) × (end.low ≤ place)

-- it was by the place
abbrev EndedBy : RbacVersion → ℕ → RbacEnd → Type 0
EndedBy version place end = (end.key ≡ version.key) × (end.last ≡ version.revision) × (end.high ≤ place)

decide_end : (version : RbacVersion) (end : RbacEnd) (n place : ℕ) → Decided ((end.key ≡ version.key) × (end.last ≡ version.revision) × (n ≤ place))
decide_end version end n place = ⊎_elim
    (λ key. ⊎_elim
    (λ last. ⊎_elim
    (λ (above : place < n). inr (λ all. let upto : n ≤ place = all.2 in omega arith))
    (λ upto. inl (key, last, upto))
    (cases_lt place n))
    (λ not. inr (λ all. not all.1))
    (cases_eq end.last version.revision))
    (λ not. inr (λ all. not all.0))
    (decide_key end.key version.key)

is_end : (known : Known) (version : RbacVersion) (end : RbacEnd) → Contains known.ends end → end.key ≡ version.key → end.last ≡ version.revision → IsEndOf known.ends version end
is_end known version end among key last = record { known = among; of_key = key; of_last = last }

pub ordered_end : (known : Known) → AreSound known.versions known.ends → (version : RbacVersion) (end : RbacEnd) → IsEndOf known.ends version end → end.low ≤ end.high
ordered_end known sound version end is = (All-contains (IsSoundEnd known.versions) known.ends end sound.sound_ends is.known).ordered

-- whether the version is there for certain
pub decide_certain : (known : Known) (place : ℕ) (version : RbacVersion) → ((end : RbacEnd) × IsEndOf known.ends version end × (end.low ≤ place)) ⊎ IsCertain known place version
decide_certain known place version = ⊎_elim
    (λ any. inl (any.1, is_end known version any.1 (any.0, any.2, any.3) any.4.0 any.4.1, any.4.2))
    (λ none. inr (λ end is. ⊎_elim
    (λ before. before)
    (λ began. absurd (none (is.known.0, end, is.known.1, is.known.2, (is.of_key, is.of_last, began))))
    (cases_lt place end.low)))
    (decide_any (BeganBy version place) (λ end. decide_end version end end.low place) known.ends)

-- whether it may be there
pub decide_there : (known : Known) (place : ℕ) (version : RbacVersion) → ((end : RbacEnd) × IsEndOf known.ends version end × (end.high ≤ place)) ⊎ IsNotGone known place version
decide_there known place version = ⊎_elim
    (λ any. inl (any.1, is_end known version any.1 (any.0, any.2, any.3) any.4.0 any.4.1, any.4.2))
    (λ none. inr (λ end is. ⊎_elim
    (λ before. before)
    (λ ended. absurd (none (is.known.0, end, is.known.1, is.known.2, (is.of_key, is.of_last, ended))))
    (cases_lt place end.high)))
    (decide_any (EndedBy version place) (λ end. decide_end version end end.high place) known.ends)

pub not_gone_from : (known : Known) → AreSound known.versions known.ends → (place : ℕ) (version : RbacVersion) → IsCertain known place version → IsNotGone known place version
not_gone_from known sound place version certain = λ end is. let low : place < end.low = certain end is in let ordered = ordered_end known sound version end is in omega arith

-- what a version holds is read in one way, or in none
abbrev pub IsRead : {X : Type 0} → Reading X → RbacContent → Type 0
IsRead {X} reads content = ((x : X) × reads content x × ((y : X) → reads content y → y ≡ x)) ⊎ ((x : X) → reads content x → ⊥)

pub record Least {X : Type 0} (reads : Reading X) (known : Known) (key : ObjectKey) (place : ℕ) : Type 1 where
  pub state : State X
  pub possible : IsState reads known key place state
  pub least : (grants : X → Type 0) → IsGranted grants state → MustGrant reads known key place grants

pub record Greatest {X : Type 0} (reads : Reading X) (known : Known) (key : ObjectKey) (place : ℕ) : Type 1 where
  pub state : State X
  pub possible : IsState reads known key place state
  pub greatest : (grants : X → Type 0) → MayGrant reads known key place grants → IsGranted grants state

module _ {X : Type 0} (reads : Reading X) (known : Known) (sound : AreSound known.versions known.ends) (key : ObjectKey) (place : ℕ) where
  grants_nothing : IsState reads known key place Nothing → Least reads known key place
  grants_nothing possible = record { state = Nothing; possible = possible; least = λ grants granted. absurd granted }

  least_read : (version : RbacVersion) → IsHeld reads known key place version → IsCertain known place version → IsRead reads version.content → Least reads known key place
  least_read version held certain (inl (x, read, one)) = record {
    state = By x;
    possible = (held.clear, (version, record { latest = held.latest; not_gone = not_gone_from known sound place version certain }, read));
    least = λ grants granted. must_read reads known key place grants version x held read one certain granted;
  }
  least_read version held certain (inr unread) =
      grants_nothing (inl (inr (version, record { latest = held.latest; not_gone = not_gone_from known sound place version certain }, unread)))

  least_held : (version : RbacVersion) → IsHeld reads known key place version → ((end : RbacEnd) × IsEndOf known.ends version end × (end.low ≤ place)) ⊎ IsCertain known place version
      → IsRead reads version.content → Least reads known key place
  least_held version held (inl (end, is, began)) read = grants_nothing (inr (gone version end held.latest is began))
  least_held version held (inr certain) read = least_read version held certain read

  least_clear : ((content : RbacContent) → IsRead reads content) → (IsClouded (writes_of known) key place → ⊥)
      → ((version : RbacVersion) × IsLatestVersion known.versions key place version) ⊎ NoneUpto known.versions key place → Least reads known key place
  least_clear read clear (inl (version, latest)) =
      least_held version (held_from reads known sound key place version clear latest) (decide_certain known place version) (read version.content)
  least_clear read clear (inr none) = grants_nothing (inr (not_yet none))

  least_by : ((content : RbacContent) → IsRead reads content) → Decided (IsClouded (writes_of known) key place) → Least reads known key place
  least_by read (inl clouded) = grants_nothing (inl (inl clouded))
  least_by read (inr clear) = least_clear read clear (latest_or_none known.versions key place)

  pub least_state : ((content : RbacContent) → IsRead reads content) → Least reads known key place
  least_state read = least_by read (decide_clouded (writes_of known) key place)

  grants_everything : IsState reads known key place Everything → Greatest reads known key place
  grants_everything possible = record { state = Everything; possible = possible; greatest = λ grants may. tt }

  greatest_read : (version : RbacVersion) → IsHeld reads known key place version → IsNotGone known place version → IsRead reads version.content → Greatest reads known key place
  greatest_read version held there (inl (x, read, one)) = record {
    state = By x;
    possible = (held.clear, (version, record { latest = held.latest; not_gone = there }, read));
    greatest = λ grants may. (read_there reads known key place grants version x held read one may).1;
  }
  greatest_read version held there (inr unread) = grants_everything (inr (version, record { latest = held.latest; not_gone = there }, unread))

  not_there : (version : RbacVersion) → IsHeld reads known key place version → IsRead reads version.content → (end : RbacEnd) → IsEndOf known.ends version end → end.high ≤ place
      → (grants : X → Type 0) → MayGrant reads known key place grants → ⊥
  not_there version held (inl (x, read, one)) end is ended grants may =
      let before : place < end.high = (read_there reads known key place grants version x held read one may).0 end is in omega arith
  not_there version held (inr unread) end is ended grants may =
      let before : place < end.high = unread_there reads known key place grants version held unread may end is in omega arith

  greatest_held : (version : RbacVersion) → IsHeld reads known key place version → ((end : RbacEnd) × IsEndOf known.ends version end × (end.high ≤ place)) ⊎ IsNotGone known place version
      → IsRead reads version.content → Greatest reads known key place
  greatest_held version held (inl (end, is, ended)) read = record {
    state = Nothing;
    possible = inr (gone version end held.latest is (let ordered = ordered_end known sound version end is in omega arith));
    greatest = λ grants may. not_there version held read end is ended grants may;
  }
  greatest_held version held (inr there) read = greatest_read version held there read

  greatest_clear : ((content : RbacContent) → IsRead reads content) → (IsClouded (writes_of known) key place → ⊥)
      → ((version : RbacVersion) × IsLatestVersion known.versions key place version) ⊎ NoneUpto known.versions key place → Greatest reads known key place
  greatest_clear read clear (inl (version, latest)) =
      greatest_held version (held_from reads known sound key place version clear latest) (decide_there known place version) (read version.content)
  greatest_clear read clear (inr none) = record { state = Nothing; possible = inr (not_yet none); greatest = λ grants may. may_missing reads known key place grants clear none may }

  greatest_by : ((content : RbacContent) → IsRead reads content) → Decided (IsClouded (writes_of known) key place) → Greatest reads known key place
  greatest_by read (inl clouded) = grants_everything (inl clouded)
  greatest_by read (inr clear) = greatest_clear read clear (latest_or_none known.versions key place)

  pub greatest_state : ((content : RbacContent) → IsRead reads content) → Greatest reads known key place
  greatest_state read = greatest_by read (decide_clouded (writes_of known) key place)

rules_or_none : RbacContent → List PolicyRule
rules_or_none (Role rules) = rules
rules_or_none (Bound binding) = []
rules_or_none Unreadable = []

-- roles are read in one way
pub read_rules : (content : RbacContent) → IsRead ReadsRules content
unfolding rules_or_none
read_rules (Role rules) = inl (rules, refl, λ y is. sym (ap rules_or_none is))
read_rules (Bound binding) = inr (λ x is. cc)
read_rules Unreadable = inr (λ x is. cc)

binding_or : Binding → RbacContent → Binding
binding_or d (Bound binding) = binding
binding_or d (Role rules) = d
binding_or d Unreadable = d

decide_cluster : (kind : Option Kind) → Decided (kind ≡ Some ClusterRoleBinding)
decide_cluster None = inr (λ is. cc)
decide_cluster (Some RoleKind) = inr (λ is. cc)
decide_cluster (Some ClusterRole) = inr (λ is. cc)
decide_cluster (Some RoleBinding) = inr (λ is. cc)
decide_cluster (Some ClusterRoleBinding) = inl refl

-- and so are bindings
pub read_binding : (key : ObjectKey) (content : RbacContent) → IsRead (IsBindingOf key) content
unfolding binding_or
read_binding key (Role rules) = inr (λ x is. let no = is.0 in cc)
read_binding key Unreadable = inr (λ x is. let no = is.0 in cc)
read_binding key (Bound binding) = ⊎_elim
    (λ cluster. inl (binding, (refl, λ kind. cluster), λ y is. sym (ap (binding_or binding) is.0)))
    (λ (plain : binding.role_is_cluster ≡ false). ⊎_elim
    (λ kind. inr (λ x is. let same : binding ≡ x = ap (binding_or binding) is.0 in let yes = is.1 kind in let no : x.role_is_cluster ≡ false = subst (λ (b : Binding). b.role_is_cluster ≡ false) same plain in cc))
    (λ other. inl (binding, (refl, λ kind. absurd (other kind)), λ y is. sym (ap (binding_or binding) is.0)))
    (decide_cluster (kind_of_key key)))
    (cases_Bool binding.role_is_cluster)
