-- Reigns are found by the names of those whom versions name.
use Rattle.std.proofs.Common.{◌≡◌, ℕ, zero, suc, ◌+◌, ◌<◌, ◌≤◌, ◌⊎◌, ⊎_elim, inl, inr, List, [], ◌∷◌, length, get_or, take, sym, ◌∙◌, subst, ap, arith}
use Rattle.std.specs.BTreeMap.{BTreeMap}
use Rattle.std.specs.List.{Any, Contains}
use Rattle.std.proofs.lemmas.List.{take_all}
use Rattle.std.proofs.lemmas.List.Elements.{Contains-push_cases}
use Rattle.base_types.proofs.Quantifiers.{Any-contains, Any-head}
use Rattle.clouds.proofs.Quantified.{Any-append_left, Any-append_right}
use Rattle.clouds.specs.Items.{AddsAt, items_at}
use Rattle.clouds.specs.Kept.{text_order}
use Rattle.rbac_rules.specs.declared.binding.Subject.{Subject}
use Rattle.rbac_rules.specs.declared.binding.Subject.TheVariants.{Group, ServiceAccount, User}
use Rattle.rbac_timeline.specs.declared.begun.Begun.{Begun}
use Rattle.rbac_timeline.specs.declared.reigns.Reign.{Reign}
use Rattle.rbac_timeline.specs.declared.reign_index.ReignIndex.{ReignIndex}
use Rattle.rbac_timeline.specs.declared.version.RbacEnd.{RbacEnd}
use Rattle.rbac_timeline.specs.declared.version.RbacVersion.{RbacVersion}
use Rattle.rbac_timeline.specs.Choices.{has_version}
use Rattle.rbac_timeline.specs.Indexed.{account_user}
use Rattle.rbac_timeline.specs.Kinds.{subjects_of}
use Rattle.rbac_timeline.specs.Known.{Known}
use Rattle.rbac_timeline.specs.Reigning.{AddsReigns, AreBegun, AreReigning, AreReigns, AreReignsOf, AsGroup, AsUser, IsReignOf, LastsUpto, Means, Side, reign_of, reigns_at}
use Rattle.rbac_timeline.proofs.Gathering.{front_more}

in_one : {X : Type 0} (a x : X) → Contains (a ∷ []) x → a ≡ x
in_one {X} a x among = go among.0 among.1 among.2
  where
    go : (k : ℕ) → k < length (a ∷ []) → get_or (a ∷ []) k x ≡ x → a ≡ x
    go zero within is = is
    go (suc k) within is = absurd (omega arith)

in_nothing : {X : Type 0} (x : X) → Contains [] x → ⊥
in_nothing x among = let within = among.1 in omega arith

module _ (old : ReignIndex) (map : BTreeMap (List ℕ) (List Reign)) (reign : Reign) where
  abbrev pub with_users : ReignIndex
  with_users = record { users = map; groups = old.groups }

  abbrev pub with_groups : ReignIndex
  with_groups = record { users = old.users; groups = map }

  -- under a user
  under_user : (subject : Subject) (name : List ℕ) → AddsAt text_order old.users map name reign → ((text : List ℕ) → Means AsUser subject text → name ≡ text) → ((text : List ℕ) → Means AsGroup subject text → ⊥)
      → AddsReigns old with_users (subject ∷ []) reign
  under_user subject name adds one none = record { kept = kept; only = only; added = added }
    where
      kept : (side : Side) (text : List ℕ) (r : Reign) → Contains (reigns_at old side text) r → Contains (reigns_at with_users side text) r
      kept AsUser text r among = adds.kept text r among
      kept AsGroup text r among = among

      only : (side : Side) (text : List ℕ) (r : Reign) → Contains (reigns_at with_users side text) r → Contains (reigns_at old side text) r ⊎ (r ≡ reign)
      only AsUser text r among = ⊎_elim (λ before. inl before) (λ is. inr is.1) (adds.only text r among)
      only AsGroup text r among = inl among

      added : (side : Side) (text : List ℕ) (s : Subject) → Contains (subject ∷ []) s → Means side s text → Contains (reigns_at with_users side text) reign
      added AsUser text s among means =
          subst (λ n. Contains (items_at text_order map n) reign) (one text (subst (λ x. Means AsUser x text) (sym (in_one subject s among)) means)) adds.added
      added AsGroup text s among means = absurd (none text (subst (λ x. Means AsGroup x text) (sym (in_one subject s among)) means))

  pub AddsReigns-user : (name : List ℕ) → AddsAt text_order old.users map name reign → AddsReigns old with_users (User name ∷ []) reign
  AddsReigns-user name adds = under_user (User name) name adds (λ text means. means) (λ text means. means)

  pub AddsReigns-account : (namespace name user : List ℕ) → user ≡ account_user namespace name → AddsAt text_order old.users map user reign → AddsReigns old with_users (ServiceAccount namespace name ∷ []) reign
  AddsReigns-account namespace name user is adds = under_user (ServiceAccount namespace name) user adds (λ text means. is ∙ sym means) (λ text means. means)

  pub AddsReigns-group : (name : List ℕ) → AddsAt text_order old.groups map name reign → AddsReigns old with_groups (Group name ∷ []) reign
  AddsReigns-group name adds = record { kept = kept; only = only; added = added }
    where
      kept : (side : Side) (text : List ℕ) (r : Reign) → Contains (reigns_at old side text) r → Contains (reigns_at with_groups side text) r
      kept AsUser text r among = among
      kept AsGroup text r among = adds.kept text r among

      only : (side : Side) (text : List ℕ) (r : Reign) → Contains (reigns_at with_groups side text) r → Contains (reigns_at old side text) r ⊎ (r ≡ reign)
      only AsUser text r among = inl among
      only AsGroup text r among = ⊎_elim (λ before. inl before) (λ is. inr is.1) (adds.only text r among)

      added : (side : Side) (text : List ℕ) (s : Subject) → Contains (Group name ∷ []) s → Means side s text → Contains (reigns_at with_groups side text) reign
      added AsUser text s among means = absurd (subst (λ x. Means AsUser x text) (sym (in_one (Group name) s among)) means)
      added AsGroup text s among means =
          let same : name ≡ text = subst (λ x. Means AsGroup x text) (sym (in_one (Group name) s among)) means in
          subst (λ n. Contains (items_at text_order map n) reign) same adds.added

pub AddsReigns-none : (index : ReignIndex) (subjects : List Subject) (reign : Reign) → AddsReigns index index (take 0 subjects) reign
AddsReigns-none index subjects reign = record {
  kept = λ side name r among. among;
  only = λ side name r among. inl among;
  added = λ side name s among means. absurd (in_nothing s among);
}

-- one subject more
pub AddsReigns-more : (first old new : ReignIndex) (subjects : List Subject) (i : ℕ) (subject : Subject) (reign : Reign) → i < length subjects → subject ≡ get_or subjects i subject
    → AddsReigns first old (take i subjects) reign → AddsReigns old new (subject ∷ []) reign → AddsReigns first new (take (i + 1) subjects) reign
AddsReigns-more first old new subjects i subject reign within is before adds = subst (λ l. AddsReigns first new l reign) (sym (front_more subjects i subject within is)) (record {
  kept = λ side name r among. adds.kept side name r (before.kept side name r among);
  only = λ side name r among. ⊎_elim (λ there. before.only side name r there) inr (adds.only side name r among);
  added = λ side name s among means. ⊎_elim
      (λ earlier. adds.kept side name reign (before.added side name s earlier means))
      (λ same. adds.added side name s (0, omega arith, same) means)
      (Contains-push_cases (take i subjects) subject s among);
})

pub AddsReigns-all : (old new : ReignIndex) (subjects : List Subject) (i : ℕ) (reign : Reign) → length subjects ≤ i → AddsReigns old new (take i subjects) reign → AddsReigns old new subjects reign
AddsReigns-all old new subjects i reign end adds = subst (λ l. AddsReigns old new l reign) (take_all i subjects end) adds

-- one version more
pub AreReigns-more : (old new : ReignIndex) (all : List Begun) (i : ℕ) (begun : Begun) → i < length all → begun ≡ get_or all i begun → AreReigns old (take i all)
    → AddsReigns old new (subjects_of begun.version.now.key begun.version.now.content) (reign_of begun) → AreReigns new (take (i + 1) all)
AreReigns-more old new all i begun within is are adds = subst (λ l. AreReigns new l) (sym (front_more all i begun within is)) (record {
  only = λ side name r among. ⊎_elim
      (λ before. Any-append_left (λ b. r ≡ reign_of b) (take i all) (begun ∷ []) (are.only side name r before))
      (λ same. Any-append_right (λ b. r ≡ reign_of b) (take i all) (begun ∷ []) (Any-head (λ b. r ≡ reign_of b) begun [] same))
      (adds.only side name r among);
  full = λ side name b s among named means. ⊎_elim
      (λ before. adds.kept side name (reign_of b) (are.full side name b s before named means))
      (λ (same : begun ≡ b).
      subst (λ x. Contains (reigns_at new side name) (reign_of x)) same
      (adds.added side name s (subst (λ x. Contains (subjects_of x.version.now.key x.version.now.content) s) (sym same) named) means))
      (Contains-push_cases (take i all) begun b among);
})

pub AreReigns-all : (index : ReignIndex) (all : List Begun) (i : ℕ) → length all ≤ i → AreReigns index (take i all) → AreReigns index all
AreReigns-all index all i end are = subst (λ l. AreReigns index l) (take_all i all end) are

-- those of all versions
pub AreReigning-begun : (index : ReignIndex) (versions : List RbacVersion) (ends : List RbacEnd) (all : List Begun) → AreBegun versions ends all → AreReigns index all → AreReigning index versions ends
AreReigning-begun index versions ends all begun are = record {
  known = λ side name reign among.
      let any = are.only side name reign among in
      Any-contains (λ v. v.key ≡ reign.key) versions any.1.version.now (begun.known any.1 (any.0, any.2, any.3)) (sym (ap (λ (r : Reign). r.key) any.4));
  full = λ side name version subject among named means.
      let any = begun.full version among in
      let one : Begun = any.1 in
      let same : one.version.now ≡ version = any.4 in
      let there : Contains all one = (any.0, any.2, any.3) in
      Any-contains (IsReignOf versions ends version) (reigns_at index side name) (reign_of one)
      (are.full side name one subject there (subst (λ v. Contains (subjects_of v.key v.content) subject) (sym same) named) means)
      (record {
        of_key = ap (λ (v : RbacVersion). v.key) same;
        first = ap (λ (v : RbacVersion). v.revision) same;
        last = subst (λ v. LastsUpto versions ends v one.last) same (begun.last one there);
      });
}

pub AreReignsOf-found : (index : ReignIndex) (known : Known) (side : Side) (name : List ℕ) (reigns : List Reign) → reigns ≡ reigns_at index side name → AreReigning index known.versions known.ends
    → AreReignsOf known (λ s. Means side s name) reigns
AreReignsOf-found index known side name reigns is are = record {
  are_known = λ reign among.
      let any = are.known side name reign (subst (λ l. Contains l reign) is among) in
      has_version any.1 (any.0, any.2, any.3) any.4;
  full = λ version subject among named means. subst (λ l. Any (IsReignOf known.versions known.ends version) l) (sym is) (are.full side name version subject among named means);
}
