-- Who made a request, and as whom (Kubernetes `audit.k8s.io/v1`, Event: `user`, `impersonatedUser`; UserInfo).
use Rattle.std.specs.Prelude.{ℕ, List, [], ◌∷◌, Option, Some, None, option_map, codes}
use Rattle.serde_json.specs.Data.{Data, Items, no_items, item}
use Rattle.serde_json.specs.Find.{get, as_str, as_array, as_object}
use Rattle.base_types.specs.Texts.{◌>>=◌}
use Rattle.base_types.specs.declared.kubernetes.request.User.{User}
use Rattle.audit_event.specs.Members.{present}

-- the texts of a list of which each item is a text
abbrev pub texts_in : Items → Option (List (List ℕ))
texts_in no_items = Some []
texts_in (item value rest) = do
  text ← as_str value
  texts ← texts_in rest
  Some (text ∷ texts)

-- a name that isn't there is empty; null is no name
abbrev pub name_of : Option Data → Option (List ℕ)
name_of None = Some []
name_of (Some value) = as_str value

-- groups that aren't there, or null, are none
abbrev pub groups_of : Option Data → Option (List (List ℕ))
groups_of None = Some []
groups_of (Some value) = as_array value >>= texts_in

abbrev pub user_of : Data → Option User
user_of value = do
  _ ← as_object value
  name ← name_of (get (codes "username") value)
  groups ← groups_of (present (codes "groups") value)
  Some (record { name = name; groups = groups })

-- a request that impersonates no one has no such member, or null
abbrev pub impersonated_of : Option Data → Option (Option User)
impersonated_of None = Some None
impersonated_of (Some value) = option_map Some (user_of value)

abbrev pub users_in : Data → Option (User × Option User)
users_in value = do
  member ← get (codes "user") value
  user ← user_of member
  impersonated ← impersonated_of (present (codes "impersonatedUser") value)
  Some (user, impersonated)
