-- Whether rules grant a request, and whom a subject means, as tests (Kubernetes "Using RBAC Authorization", "Referring
-- to resources" and "Referring to subjects").
use Rattle.std.specs.Prelude.{ℕ, Bool, true, false, not, ◌&&◌, ◌||◌, List, [], ◌∷◌, bytes_eq, codes, if◌then◌else◌}
use Rattle.std.specs.List.{list_any}
use Rattle.base_types.specs.Matching.{combined, has_text, path_matches}
use Rattle.base_types.specs.declared.kubernetes.request.RequestAttrs.{RequestAttrs}
use Rattle.base_types.specs.declared.kubernetes.request.User.{User}
use Rattle.rbac_rules.specs.declared.binding.Subject.{Subject}
use Rattle.rbac_rules.specs.declared.binding.Subject.TheVariants.{Group, ServiceAccount, User as UserNamed}
use Rattle.rbac_rules.specs.declared.role.PolicyRule.{PolicyRule}
use Rattle.rbac_timeline.specs.Indexed.{account_user}

abbrev pub has_none : {X : Type 0} → List X → Bool
has_none [] = true
has_none (x ∷ xs) = false

-- an item of a list of verbs or of groups takes the text
abbrev pub takes_text : List ℕ → List ℕ → Bool
takes_text text item = bytes_eq item (codes "*") || bytes_eq item text

-- without names every name is taken
abbrev pub takes_name : List (List ℕ) → List ℕ → Bool
takes_name names name = has_none names || has_text names name

-- an entry of `resources` names what the request is for
abbrev pub names_resource : RequestAttrs → List ℕ → Bool
names_resource attrs entry = bytes_eq entry (codes "*")
    || (if has_none attrs.subresource then bytes_eq entry attrs.resource
    else (bytes_eq entry (combined attrs.resource attrs.subresource) || bytes_eq entry (combined (codes "*") attrs.subresource)))

abbrev pub grants_resource : RequestAttrs → PolicyRule → Bool
grants_resource attrs rule = attrs.is_resource && (list_any (takes_text attrs.verb) rule.verbs && (list_any (takes_text attrs.group) rule.api_groups
    && (list_any (names_resource attrs) rule.resources && takes_name rule.resource_names attrs.name)))

abbrev pub grants_path : RequestAttrs → PolicyRule → Bool
grants_path attrs rule = not attrs.is_resource && (list_any (takes_text attrs.verb) rule.verbs && list_any (λ entry. path_matches entry attrs.path) rule.non_resource_urls)

-- some rule grants the request
abbrev pub grants : RequestAttrs → List PolicyRule → Bool
grants attrs rules = list_any (λ rule. grants_resource attrs rule || grants_path attrs rule) rules

-- the user is one of those whom the subject means
abbrev pub means : User → Subject → Bool
means who (UserNamed name) = bytes_eq who.name name
means who (Group name) = has_text who.groups name
means who (ServiceAccount namespace name) = not (has_none namespace) && bytes_eq who.name (account_user namespace name)
