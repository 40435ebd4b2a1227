-- Which requests the rules of a role grant (Kubernetes "Using RBAC Authorization", "Referring to resources").
use Rattle.std.specs.Prelude.{◌≡◌, ◌≢◌, ℕ, true, false, List, [], ◌++◌, ◌⊎◌, Any, Contains, codes}
use Rattle.base_types.specs.Matching.{combined}
use Rattle.base_types.specs.declared.kubernetes.request.RequestAttrs.{RequestAttrs}
use Rattle.rbac_rules.specs.declared.role.PolicyRule.{PolicyRule}

-- an item of a list of verbs or of groups is the text, or `*`
abbrev pub IsTextTaken : List ℕ → List ℕ → Type 0
IsTextTaken text item = (item ≡ codes "*") ⊎ (item ≡ text)

-- without `resourceNames` every name is taken, also the empty one
abbrev pub IsNameTaken : List (List ℕ) → List ℕ → Type 0
IsNameTaken names name = (names ≡ []) ⊎ Contains names name

-- An entry of `resources`: `*` is everything, `pods` the resource without a subresource, `pods/log` a subresource,
-- `*/scale` that subresource of each resource. So `pods/*` is only a subresource that is named `*`.
pub data IsResourceNamed (attrs : RequestAttrs) (entry : List ℕ) : Type 0 where
  everything : entry ≡ codes "*" → IsResourceNamed attrs entry
  resource : attrs.subresource ≡ [] → entry ≡ attrs.resource → IsResourceNamed attrs entry
  subresource : attrs.subresource ≢ [] → entry ≡ combined attrs.resource attrs.subresource → IsResourceNamed attrs entry
  of_each_resource : attrs.subresource ≢ [] → entry ≡ combined (codes "*") attrs.subresource → IsResourceNamed attrs entry

-- An entry of `nonResourceURLs` is the path, or a front of it and one `*`.
abbrev pub IsPathTaken : List ℕ → List ℕ → Type 0
IsPathTaken path entry = (entry ≡ path) ⊎ ((front : List ℕ) × (rest : List ℕ) × (entry ≡ front ++ codes "*") × (path ≡ front ++ rest))

pub record GrantsResource (attrs : RequestAttrs) (rule : PolicyRule) : Type 0 where
  pub is_resource : attrs.is_resource ≡ true
  pub verb : Any (IsTextTaken attrs.verb) rule.verbs
  pub group : Any (IsTextTaken attrs.group) rule.api_groups
  pub named : Any (IsResourceNamed attrs) rule.resources
  pub name : IsNameTaken rule.resource_names attrs.name

pub record GrantsPath (attrs : RequestAttrs) (rule : PolicyRule) : Type 0 where
  pub is_path : attrs.is_resource ≡ false
  pub verb : Any (IsTextTaken attrs.verb) rule.verbs
  pub path : Any (IsPathTaken attrs.path) rule.non_resource_urls

-- some rule grants the request
abbrev pub Grants : List PolicyRule → RequestAttrs → Type 0
Grants rules attrs = Any (λ rule. GrantsResource attrs rule ⊎ GrantsPath attrs rule) rules
