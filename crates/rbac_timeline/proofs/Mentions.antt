-- Bindings are found by the subjects that their versions name.
use Rattle.std.proofs.Common.{◌≡◌, ℕ, ◌+◌, ◌<◌, ◌↔◌, ◌⊎◌, ⊎_elim, inl, inr, true, false, Some, None, List, [], ◌∷◌, ◌++◌, length, get_or, map, take, refl, sym, ◌∙◌, subst, ap, append_assoc, append-nil, arith}
use Rattle.std.specs.BTreeMap.{BTreeMap, Updates, get}
use Rattle.std.specs.List.{Contains}
use Rattle.std.specs.Ordering.{is_eq}
use Rattle.std.specs.declared.cmp.Ordering.{Ordering}
use Rattle.std.specs.declared.cmp.Ordering.TheVariants.{Equal, Greater, Less}
use Rattle.std.proofs.lemmas.Bool.{cases_Bool, cond-false, cond-true}
use Rattle.std.proofs.lemmas.List.{take_more}
use Rattle.std.proofs.lemmas.List.Concat.{flat_map-append}
use Rattle.std.proofs.lemmas.List.Elements.{Contains-append_left, Contains-push, Contains-push_cases}
use Rattle.std.proofs.lemmas.Map.Lookups.{exact_bytes}
use Rattle.base_types.specs.declared.kubernetes.key.ObjectKey.{ObjectKey}
use Rattle.clouds.specs.Items.{AddsAt, items_at}
use Rattle.clouds.specs.Kept.{text_order}
use Rattle.clouds.proofs.Keeping.{taken_more}
use Rattle.rbac_rules.specs.declared.binding.Subject.{Subject}
use Rattle.rbac_rules.specs.declared.binding.Subject.TheVariants.{Group, ServiceAccount, User}
use Rattle.rbac_timeline.specs.declared.index.Index.{Index}
use Rattle.rbac_timeline.specs.declared.version.RbacVersion.{RbacVersion}
use Rattle.rbac_timeline.specs.Indexed.{AddsAccount, ByText, IsIndexed, Mention, account_keys, keys_in, mention_of, mentions_in, mentions_of}

equal_is : (o : Ordering) → is_eq o ≡ true → o ≡ Equal
equal_is Less other = cc
equal_is Equal same = refl
equal_is Greater other = cc

pub same_text : (a b : List ℕ) → is_eq (text_order a b) ≡ true → a ≡ b
same_text a b tied = exact_bytes a b (equal_is (text_order a b) tied)

-- a key under a text is one more key of an account
pub AddsAccount-updates : (old new : BTreeMap (List ℕ) ByText) (namespace : List ℕ) (names : ByText) (name : List ℕ) (key : ObjectKey) → Updates text_order old new namespace (Some names)
    → ((n : List ℕ) (k : ObjectKey) → Contains (keys_in (get text_order old namespace) n) k → Contains (items_at text_order names n) k)
    → Contains (items_at text_order names name) key
    → ((n : List ℕ) (k : ObjectKey) → Contains (items_at text_order names n) k → Contains (keys_in (get text_order old namespace) n) k ⊎ ((name ≡ n) × (k ≡ key)))
    → AddsAccount old new namespace name key
AddsAccount-updates old new namespace names name key updates kept added only = record {
  kept = λ ns n k among. ⊎_elim
      (λ tied. subst (λ l. Contains l k) (sym (here ns n tied)) (kept n k (subst (λ t. Contains (account_keys old t n) k) (sym (same_text namespace ns tied)) among)))
      (λ apart. subst (λ l. Contains l k) (sym (there ns n apart)) among)
      (cases_Bool (is_eq (text_order namespace ns)));
  added = subst (λ l. Contains l key) (sym (ap (λ o. keys_in o name) updates.1)) added;
  only = λ ns n k among. ⊎_elim
      (λ tied. ⊎_elim
      (λ before. inl (subst (λ t. Contains (account_keys old t n) k) (same_text namespace ns tied) before))
      (λ is. inr (same_text namespace ns tied, is.0, is.1))
      (only n k (subst (λ l. Contains l k) (here ns n tied) among)))
      (λ apart. inl (subst (λ l. Contains l k) (there ns n apart) among))
      (cases_Bool (is_eq (text_order namespace ns)));
}
  where
    here : (ns n : List ℕ) → is_eq (text_order namespace ns) ≡ true → account_keys new ns n ≡ items_at text_order names n
    here ns n tied = ap (λ o. keys_in o n) (updates.0 ns ∙ cond-true (is_eq (text_order namespace ns)) (Some names) (get text_order old ns) tied)

    there : (ns n : List ℕ) → is_eq (text_order namespace ns) ≡ false → account_keys new ns n ≡ account_keys old ns n
    there ns n apart = ap (λ o. keys_in o n) (updates.0 ns ∙ cond-false (is_eq (text_order namespace ns)) (Some names) (get text_order old ns) apart)

-- one mention more, of a subject of this kind, and of another
more_here : (subject : List ℕ → Subject) (name_of : Subject → List ℕ) → ((n : List ℕ) → name_of (subject n) ≡ n) → (old new : ByText) (name : List ℕ) (key : ObjectKey) (mentions : List Mention)
    → AddsAt text_order old new name key → ((n : List ℕ) (k : ObjectKey) → Contains (items_at text_order old n) k ↔ Contains mentions (mention_of k (subject n)))
    → (n : List ℕ) (k : ObjectKey) → Contains (items_at text_order new n) k ↔ Contains (mentions ++ mention_of key (subject name) ∷ []) (mention_of k (subject n))
more_here subject name_of names old new name key mentions adds are n k = (
  (λ among. ⊎_elim
      (λ before. Contains-append_left mentions (mention_of key (subject name) ∷ []) (mention_of k (subject n)) ((are n k).0 before))
      (λ is. subst (λ t. Contains (mentions ++ mention_of key (subject name) ∷ []) (mention_of k (subject t))) (same_text name n is.0)
      (subst (λ x. Contains (mentions ++ mention_of key (subject name) ∷ []) (mention_of x (subject name))) (sym is.1) (Contains-push mentions (mention_of key (subject name)))))
      (adds.only n k among)),
  (λ among. ⊎_elim
      (λ before. adds.kept n k ((are n k).1 before))
      (λ (is : mention_of key (subject name) ≡ mention_of k (subject n)).
      let of_name : name ≡ n = sym (names name) ∙ ap (λ (m : Mention). name_of m.subject) is ∙ names n in
      subst (λ t. Contains (items_at text_order new t) k) of_name (subst (λ x. Contains (items_at text_order new name) x) (ap (λ (m : Mention). m.key) is) adds.added))
      (Contains-push_cases mentions (mention_of key (subject name)) (mention_of k (subject n)) among)),
)

more_elsewhere : (P : Type 0) (mentions : List Mention) (mention other : Mention) → (mention.subject ≡ other.subject → ⊥) → (P ↔ Contains mentions other) → P ↔ Contains (mentions ++ mention ∷ []) other
more_elsewhere P mentions mention other apart same = (
  (λ p. Contains-append_left mentions (mention ∷ []) other (same.0 p)),
  (λ among. ⊎_elim same.1 (λ is. absurd (apart (ap (λ (m : Mention). m.subject) is))) (Contains-push_cases mentions mention other among)),
)

abbrev user_name : Subject → List ℕ
user_name (User name) = name
user_name (Group name) = []
user_name (ServiceAccount namespace name) = []

abbrev group_name : Subject → List ℕ
group_name (User name) = []
group_name (Group name) = name
group_name (ServiceAccount namespace name) = []

abbrev account_namespace : Subject → List ℕ
account_namespace (User name) = []
account_namespace (Group name) = []
account_namespace (ServiceAccount namespace name) = namespace

abbrev account_name : Subject → List ℕ
account_name (User name) = []
account_name (Group name) = []
account_name (ServiceAccount namespace name) = name

abbrev which : Subject → ℕ
which (User name) = 0
which (Group name) = 1
which (ServiceAccount namespace name) = 2

unlike : (a b : Subject) → which a < which b ⊎ which b < which a → a ≡ b → ⊥
unlike a b either same = let alike : which a ≡ which b = ap which same in ⊎_elim (λ less. omega arith) (λ more. omega arith) either

pub IsIndexed-user : (index : Index) (users : ByText) (name : List ℕ) (key : ObjectKey) (mentions : List Mention) → AddsAt text_order index.users users name key → IsIndexed index mentions
    → IsIndexed (record index { users = users }) (mentions ++ mention_of key (User name) ∷ [])
IsIndexed-user index users name key mentions adds are = record {
  by_user = more_here (λ n. User n) user_name (λ n. refl) index.users users name key mentions adds are.by_user;
  by_group = λ n k. more_elsewhere _ mentions (mention_of key (User name)) (mention_of k (Group n)) (unlike (User name) (Group n) (inl (omega arith))) (are.by_group n k);
  by_account = λ ns n k. more_elsewhere _ mentions (mention_of key (User name)) (mention_of k (ServiceAccount ns n)) (unlike (User name) (ServiceAccount ns n) (inl (omega arith))) (are.by_account ns n k);
}

pub IsIndexed-group : (index : Index) (groups : ByText) (name : List ℕ) (key : ObjectKey) (mentions : List Mention) → AddsAt text_order index.groups groups name key → IsIndexed index mentions
    → IsIndexed (record index { groups = groups }) (mentions ++ mention_of key (Group name) ∷ [])
IsIndexed-group index groups name key mentions adds are = record {
  by_user = λ n k. more_elsewhere _ mentions (mention_of key (Group name)) (mention_of k (User n)) (unlike (Group name) (User n) (inr (omega arith))) (are.by_user n k);
  by_group = more_here (λ n. Group n) group_name (λ n. refl) index.groups groups name key mentions adds are.by_group;
  by_account = λ ns n k. more_elsewhere _ mentions (mention_of key (Group name)) (mention_of k (ServiceAccount ns n)) (unlike (Group name) (ServiceAccount ns n) (inl (omega arith))) (are.by_account ns n k);
}

module _ (index : Index) (accounts : BTreeMap (List ℕ) ByText) (namespace name : List ℕ) (key : ObjectKey) (mentions : List Mention)
    (adds : AddsAccount index.accounts accounts namespace name key) (are : IsIndexed index mentions) where
  abbrev mention : Mention
  mention = mention_of key (ServiceAccount namespace name)

  abbrev longer : List Mention
  longer = mentions ++ mention ∷ []

  account_here : (ns n : List ℕ) (k : ObjectKey) → Contains (account_keys accounts ns n) k ↔ Contains longer (mention_of k (ServiceAccount ns n))
  account_here ns n k = (
    (λ among. ⊎_elim
        (λ before. Contains-append_left mentions (mention ∷ []) (mention_of k (ServiceAccount ns n)) ((are.by_account ns n k).0 before))
        (λ is. subst (λ t. Contains longer (mention_of k (ServiceAccount t n))) is.0
        (subst (λ t. Contains longer (mention_of k (ServiceAccount namespace t))) is.1
        (subst (λ x. Contains longer (mention_of x (ServiceAccount namespace name))) (sym is.2) (Contains-push mentions mention))))
        (adds.only ns n k among)),
    (λ among. ⊎_elim
        (λ before. adds.kept ns n k ((are.by_account ns n k).1 before))
        (λ (is : mention ≡ mention_of k (ServiceAccount ns n)).
        subst (λ t. Contains (account_keys accounts t n) k) (ap (λ (m : Mention). account_namespace m.subject) is)
        (subst (λ t. Contains (account_keys accounts namespace t) k) (ap (λ (m : Mention). account_name m.subject) is)
        (subst (λ x. Contains (account_keys accounts namespace name) x) (ap (λ (m : Mention). m.key) is) adds.added)))
        (Contains-push_cases mentions mention (mention_of k (ServiceAccount ns n)) among)),
  )

  pub IsIndexed-account : IsIndexed (record index { accounts = accounts }) longer
  IsIndexed-account = record {
    by_user = λ n k. more_elsewhere _ mentions mention (mention_of k (User n)) (unlike (ServiceAccount namespace name) (User n) (inr (omega arith))) (are.by_user n k);
    by_group = λ n k. more_elsewhere _ mentions mention (mention_of k (Group n)) (unlike (ServiceAccount namespace name) (Group n) (inr (omega arith))) (are.by_group n k);
    by_account = account_here;
  }

-- the mentions of one version more
pub mentions_more : (versions : List RbacVersion) (i : ℕ) (version : RbacVersion) → i < length versions → version ≡ get_or versions i version
    → mentions_of (take (i + 1) versions) ≡ mentions_of (take i versions) ++ mentions_in version
mentions_more versions i version within is =
    ap mentions_of (take_more versions i version within ∙ ap (λ (v : RbacVersion). take i versions ++ v ∷ []) (sym is))
    ∙ flat_map-append mentions_in (take i versions) (version ∷ []) ∙ ap (λ l. mentions_of (take i versions) ++ l) (append-nil (mentions_in version))

pub AddsAccount-more : (old new : BTreeMap (List ℕ) ByText) (namespace : List ℕ) (before names : ByText) (name : List ℕ) (key : ObjectKey) → get text_order old namespace ≡ Some before
    → Updates text_order old new namespace (Some names) → AddsAt text_order before names name key → AddsAccount old new namespace name key
AddsAccount-more old new namespace before names name key held updates adds = AddsAccount-updates old new namespace names name key updates
    (λ n k among. adds.kept n k (subst (λ o. Contains (keys_in o n) k) held among))
    adds.added
    (λ n k among. ⊎_elim
    (λ there. inl (subst (λ o. Contains (keys_in o n) k) (sym held) there))
    (λ is. inr (same_text name n is.0, is.1))
    (adds.only n k among))

pub AddsAccount-first : (old new : BTreeMap (List ℕ) ByText) (namespace : List ℕ) (empty names : ByText) (name : List ℕ) (key : ObjectKey) → get text_order old namespace ≡ None
    → Updates text_order old new namespace (Some names) → ((n : List ℕ) → items_at text_order empty n ≡ []) → AddsAt text_order empty names name key → AddsAccount old new namespace name key
AddsAccount-first old new namespace empty names name key none updates is_empty adds = AddsAccount-updates old new namespace names name key updates
    (λ n k among. let within = (subst (λ o. Contains (keys_in o n) k) none among).1 in absurd (omega arith))
    adds.added
    (λ n k among. ⊎_elim
    (λ there. let within = (subst (λ l. Contains l k) (is_empty n) there).1 in absurd (omega arith))
    (λ is. inr (same_text name n is.0, is.1))
    (adds.only n k among))

-- one subject more
pub mentioned_more : (mentions : List Mention) (key : ObjectKey) (subjects : List Subject) (i : ℕ) (subject : Subject) → i < length subjects → subject ≡ get_or subjects i subject
    → (mentions ++ map (mention_of key) (take i subjects)) ++ mention_of key subject ∷ [] ≡ mentions ++ map (mention_of key) (take (i + 1) subjects)
mentioned_more mentions key subjects i subject within is =
    append_assoc mentions (map (mention_of key) (take i subjects)) (mention_of key subject ∷ []) ∙ ap (λ l. mentions ++ l) (sym (taken_more (mention_of key) subjects i subject within is))
