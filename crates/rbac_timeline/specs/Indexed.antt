-- Which bindings are found by a subject, and which user a service account is.
use Rattle.std.specs.Prelude.{◌≡◌, ◌↔◌, ◌⊎◌, ℕ, List, [], ◌++◌, Option, Some, None, Contains, codes, map}
use Rattle.std.specs.BTreeMap.{BTreeMap, get}
use Rattle.std.specs.List.{flat_map}
use Rattle.base_types.specs.declared.kubernetes.key.ObjectKey.{ObjectKey}
use Rattle.clouds.specs.Items.{items_at}
use Rattle.clouds.specs.Kept.{text_order}
use Rattle.rbac_rules.specs.declared.binding.Subject.{Subject}
use Rattle.rbac_rules.specs.declared.binding.Subject.TheVariants.{User, Group, ServiceAccount}
use Rattle.rbac_timeline.specs.declared.index.Index.{Index}
use Rattle.rbac_timeline.specs.declared.version.RbacVersion.{RbacVersion}
use Rattle.rbac_timeline.specs.Kinds.{subjects_of}

-- a list has one item more, or has it already
pub record HasOneMore {X : Type 0} (old new : List X) (item : X) : Type 0 where
  pub kept : (x : X) → Contains old x → Contains new x
  pub added : Contains new item
  pub only : (x : X) → Contains new x → Contains old x ⊎ (x ≡ item)

abbrev pub ByText : Type 0
ByText = BTreeMap (List ℕ) (List ObjectKey)

abbrev pub keys_in : Option ByText → List ℕ → List ObjectKey
keys_in None name = []
keys_in (Some names) name = items_at text_order names name

-- the keys of a service account
abbrev pub account_keys : BTreeMap (List ℕ) ByText → List ℕ → List ℕ → List ObjectKey
account_keys accounts namespace name = keys_in (get text_order accounts namespace) name

-- one key more, of this account
pub record AddsAccount (old new : BTreeMap (List ℕ) ByText) (namespace name : List ℕ) (key : ObjectKey) : Type 0 where
  pub kept : (ns n : List ℕ) (k : ObjectKey) → Contains (account_keys old ns n) k → Contains (account_keys new ns n) k
  pub added : Contains (account_keys new namespace name) key
  pub only : (ns n : List ℕ) (k : ObjectKey) → Contains (account_keys new ns n) k → Contains (account_keys old ns n) k ⊎ ((namespace ≡ ns) × (name ≡ n) × (k ≡ key))

-- the user that a service account is
abbrev pub account_user : List ℕ → List ℕ → List ℕ
account_user namespace name = codes "system:serviceaccount:" ++ (namespace ++ (codes ":" ++ name))

-- the keys of a subject
abbrev pub keys_of : Index → Subject → List ObjectKey
keys_of index (User name) = items_at text_order index.users name
keys_of index (Group name) = items_at text_order index.groups name
keys_of index (ServiceAccount namespace name) = account_keys index.accounts namespace name

-- a binding, and one of the subjects that a version of it names
pub record Mention : Type 0 where
  pub key : ObjectKey
  pub subject : Subject

abbrev pub mention_of : ObjectKey → Subject → Mention
mention_of key subject = record { key = key; subject = subject }

abbrev pub mentions_in : RbacVersion → List Mention
mentions_in version = map (mention_of version.key) (subjects_of version.key version.content)

abbrev pub mentions_of : List RbacVersion → List Mention
mentions_of versions = flat_map mentions_in versions

-- each subject has the keys of the bindings that name it
pub record IsIndexed (index : Index) (mentions : List Mention) : Type 0 where
  pub by_user : (name : List ℕ) (key : ObjectKey) → Contains (items_at text_order index.users name) key ↔ Contains mentions (mention_of key (User name))
  pub by_group : (name : List ℕ) (key : ObjectKey) → Contains (items_at text_order index.groups name) key ↔ Contains mentions (mention_of key (Group name))
  pub by_account : (namespace name : List ℕ) (key : ObjectKey) → Contains (account_keys index.accounts namespace name) key ↔ Contains mentions (mention_of key (ServiceAccount namespace name))
