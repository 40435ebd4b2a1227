-- Whom a subject of a binding means (Kubernetes "Using RBAC Authorization", "Referring to subjects").
use Rattle.std.specs.Prelude.{◌≡◌, ◌≢◌, ℕ, List, [], ◌++◌, Contains, codes}
use Rattle.base_types.specs.declared.kubernetes.request.User.{User}
use Rattle.rbac_rules.specs.declared.binding.Subject.{Subject}
use Rattle.rbac_rules.specs.declared.binding.Subject.TheVariants.{User as UserNamed, Group, ServiceAccount}

-- NAMESPACE:NAME
abbrev pub IsJoined : List ℕ → List ℕ → List ℕ → Type 0
IsJoined text namespace name = text ≡ namespace ++ (codes ":" ++ name)

-- a service account is the user system:serviceaccount:NAMESPACE:NAME
abbrev pub IsAccount : List ℕ → List ℕ → List ℕ → Type 0
IsAccount user namespace name = user ≡ codes "system:serviceaccount:" ++ (namespace ++ (codes ":" ++ name))

-- a service account without a namespace is nobody
abbrev pub Matches : Subject → User → Type 0
Matches (UserNamed name) who = who.name ≡ name
Matches (Group name) who = Contains who.groups name
Matches (ServiceAccount namespace name) who = (namespace ≢ []) × IsAccount who.name namespace name
