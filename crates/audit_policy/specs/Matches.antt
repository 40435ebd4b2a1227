-- When a rule of a policy takes a request (Kubernetes "Auditing", "Audit policy"). An empty list puts no condition.
use Rattle.std.specs.Prelude.{◌==◌, ◌&&◌, ◌||◌, Bool, not, List, ℕ, length, bytes_eq, codes}
use Rattle.std.specs.List.{list_any}
use Rattle.base_types.specs.Matching.{has_text, path_matches, combined}
use Rattle.base_types.specs.declared.kubernetes.request.RequestAttrs.{RequestAttrs}
use Rattle.base_types.specs.declared.kubernetes.request.User.{User}
use Rattle.audit_policy.specs.declared.policy.AuditRule.{AuditRule}
use Rattle.audit_policy.specs.declared.policy.GroupResources.{GroupResources}

abbrev pub is_empty : {X : Type 0} → List X → Bool
is_empty list = length list == 0

abbrev pub takes : List (List ℕ) → List ℕ → Bool
takes list text = is_empty list || has_text list text

-- `pods` is the resource itself, `pods/log` a subresource, `pods/*` the resource with or without a subresource,
-- `*/scale` that subresource of each resource, `*` everything
abbrev pub pattern_matches : RequestAttrs → List ℕ → Bool
pattern_matches attrs pattern =
    bytes_eq pattern (codes "*")
    || (is_empty attrs.subresource && bytes_eq pattern attrs.resource)
    || (not (is_empty attrs.subresource)
    && (bytes_eq pattern (combined attrs.resource attrs.subresource) || bytes_eq pattern (combined (codes "*") attrs.subresource)))
    || bytes_eq pattern (combined attrs.resource (codes "*"))

-- the group is compared exactly; without patterns the item is the whole group
abbrev pub item_matches : RequestAttrs → GroupResources → Bool
item_matches attrs item =
    bytes_eq item.group attrs.group
    && (is_empty item.resources || list_any (pattern_matches attrs) item.resources)
    && takes item.resource_names attrs.name

abbrev pub user_matches : User → AuditRule → Bool
user_matches user rule =
    takes rule.users user.name && (is_empty rule.user_groups || list_any (has_text rule.user_groups) user.groups)

-- a rule with `resources` or `namespaces` is for resource requests only
abbrev pub resource_matches : RequestAttrs → AuditRule → Bool
resource_matches attrs rule =
    (is_empty rule.resources && is_empty rule.namespaces)
    || (attrs.is_resource
    && takes rule.namespaces attrs.namespace
    && (is_empty rule.resources || list_any (item_matches attrs) rule.resources))

-- a rule with `nonResourceURLs` is for the other requests only
abbrev pub url_matches : RequestAttrs → AuditRule → Bool
url_matches attrs rule =
    is_empty rule.non_resource_urls
    || (not attrs.is_resource && list_any (λ entry. path_matches entry attrs.path) rule.non_resource_urls)

abbrev pub rule_matches : RequestAttrs → User → AuditRule → Bool
rule_matches attrs user rule =
    user_matches user rule && takes rule.verbs attrs.verb && resource_matches attrs rule && url_matches attrs rule
