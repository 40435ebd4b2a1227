-- Which trees are a Role or a binding (Kubernetes `rbac.authorization.k8s.io/v1`: Role, ClusterRole, RoleBinding and
-- ClusterRoleBinding), and what they hold. Other members than those named here are ignored, `aggregationRule` among them.
use Rattle.std.specs.Prelude.{ℕ, ◌==◌, Bool, true, false, List, [], ◌∷◌, Option, Some, None, length, unwrap_or, bytes_eq, codes, if◌then◌else◌}
use Rattle.base_types.specs.Meaning.{Meaning}
use Rattle.base_types.specs.Parts.{member_of, is_null, text_of, members_of}
use Rattle.base_types.specs.Texts.{◌>>=◌, texts_at, text_at, items_or_none}
use Rattle.rbac_rules.specs.declared.role.PolicyRule.{PolicyRule}
use Rattle.rbac_rules.specs.declared.binding.Subject.{Subject}
use Rattle.rbac_rules.specs.declared.binding.Subject.TheVariants.{User, Group, ServiceAccount}
use Rattle.rbac_rules.specs.declared.binding.Binding.{Binding}

-- A rule is an object. Each of its lists may be missing, and is then empty, but not null.
abbrev pub rule_of : Meaning → Option PolicyRule
rule_of tree = do
  _ ← members_of tree
  api_groups ← texts_at (codes "apiGroups") tree
  resources ← texts_at (codes "resources") tree
  verbs ← texts_at (codes "verbs") tree
  names ← texts_at (codes "resourceNames") tree
  urls ← texts_at (codes "nonResourceURLs") tree
  Some (record {
    api_groups = api_groups;
    resources = resources;
    verbs = verbs;
    resource_names = names;
    non_resource_urls = urls;
  })

abbrev pub rules_in : List Meaning → Option (List PolicyRule)
rules_in [] = Some []
rules_in (tree ∷ trees) = do
  rule ← rule_of tree
  rules ← rules_in trees
  Some (rule ∷ rules)

-- the rules of a Role or a ClusterRole
abbrev pub role_of : Meaning → Option (List PolicyRule)
role_of tree = do
  _ ← members_of tree
  trees ← items_or_none (member_of (codes "rules") tree)
  rules_in trees

-- the text, or the binding's namespace where it is empty
abbrev pub or_home : List ℕ → List ℕ → List ℕ
or_home home text = if length text == 0 then home else text

-- The namespace of a service account may be missing, null or empty: then it is the binding's.
abbrev pub namespace_or : List ℕ → Option Meaning → Option (List ℕ)
namespace_or home None = Some home
namespace_or home (Some tree) = if is_null tree then Some home else (text_of tree >>= λ text. Some (or_home home text))

abbrev pub account_of : List ℕ → Meaning → List ℕ → Option Subject
account_of home tree name = do
  namespace ← namespace_or home (member_of (codes "namespace") tree)
  Some (ServiceAccount namespace name)

abbrev pub subject_by : List ℕ → Meaning → List ℕ → List ℕ → Option Subject
subject_by home tree kind name =
    if bytes_eq kind (codes "User") then Some (User name)
    else (if bytes_eq kind (codes "Group") then Some (Group name)
    else (if bytes_eq kind (codes "ServiceAccount") then account_of home tree name else None))

-- a subject of a binding whose namespace is `home`
abbrev pub subject_of : List ℕ → Meaning → Option Subject
subject_of home tree = do
  kind ← text_at (codes "kind") tree
  name ← text_at (codes "name") tree
  subject_by home tree kind name

abbrev pub subjects_in : List ℕ → List Meaning → Option (List Subject)
subjects_in home [] = Some []
subjects_in home (tree ∷ trees) = do
  subject ← subject_of home tree
  subjects ← subjects_in home trees
  Some (subject ∷ subjects)

-- the namespace of a binding, at `/metadata/namespace`; empty where there is none
abbrev pub home_of : Meaning → List ℕ
home_of tree = unwrap_or (member_of (codes "metadata") tree >>= text_at (codes "namespace")) []

-- whether a kind of role is ClusterRole
abbrev pub is_cluster_kind : List ℕ → Option Bool
is_cluster_kind kind =
    if bytes_eq kind (codes "ClusterRole") then Some true
    else (if bytes_eq kind (codes "Role") then Some false else None)

-- the role that a binding refers to: whether it is a ClusterRole, and its name
abbrev pub role_ref_of : Meaning → Option (Bool × List ℕ)
role_ref_of tree = do
  role ← member_of (codes "roleRef") tree
  kind ← text_at (codes "kind") role
  name ← text_at (codes "name") role
  is_cluster ← is_cluster_kind kind
  Some (is_cluster, name)

-- A RoleBinding or a ClusterRoleBinding. The object doesn't tell which of them it is, so a Role is accepted in both.
abbrev pub binding_of : Meaning → Option Binding
binding_of tree = do
  role ← role_ref_of tree
  trees ← items_or_none (member_of (codes "subjects") tree)
  subjects ← subjects_in (home_of tree) trees
  Some (record { role_is_cluster = role.0; role = role.1; subjects = subjects })
