-- The tests of requests tell what rules grant and whom subjects mean.
use Rattle.std.proofs.Common.{◌≡◌, ◌≢◌, ℕ, ◌⊎◌, ⊎_elim, inl, inr, Bool, true, false, not, ◌||◌, List, [], ◌∷◌, length, Decides, codes, bytes_eq, refl, ap, arith, if◌then◌else◌}
use Rattle.std.specs.List.{Any, list_any}
use Rattle.std.proofs.lemmas.Bool.Decides.{Decides-and, Decides-like, Decides-not, Decides-or}
use Rattle.std.proofs.lemmas.Slice.Eq.{bytes_eq-Decides}
use Rattle.base_types.specs.Matching.{combined, has_text, path_matches}
use Rattle.base_types.specs.declared.kubernetes.request.RequestAttrs.{RequestAttrs}
use Rattle.base_types.specs.declared.kubernetes.request.User.{User}
use Rattle.rbac_rules.proofs.Texts.{has_text-Decides, path_matches-Decides}
use Rattle.rbac_rules.specs.Granting.{Grants, GrantsPath, GrantsResource, IsNameTaken, IsPathTaken, IsResourceNamed, IsTextTaken, everything, of_each_resource, resource, subresource}
use Rattle.rbac_rules.specs.Matching.{Matches}
use Rattle.rbac_rules.specs.declared.binding.Subject.{Subject}
use Rattle.rbac_rules.specs.declared.binding.Subject.TheVariants.{Group, ServiceAccount, User as UserNamed}
use Rattle.rbac_rules.specs.declared.role.PolicyRule.{PolicyRule}
use Rattle.rbac_timeline.specs.Indexed.{account_user}
use Rattle.rbac_timeline.specs.Requests.{grants, grants_path, grants_resource, has_none, means, names_resource, takes_name, takes_text}
use Rattle.rbac_timeline.proofs.Telling.{Decides-any, Decides-flag, Decides-unset}

pub has_none-Decides : {X : Type 0} (xs : List X) → Decides (has_none xs) (xs ≡ [])
has_none-Decides [] = ((λ yes. refl), (λ is. refl))
has_none-Decides {X} (x ∷ xs) = ((λ yes. let no : false ≡ true = yes in cc), (λ is. let n : length (x ∷ xs) ≡ 0 = ap (λ (l : List X). length l) is in absurd (omega arith)))

takes_text-Decides : (text item : List ℕ) → Decides (takes_text text item) (IsTextTaken text item)
takes_text-Decides text item = Decides-or (bytes_eq item (codes "*")) (bytes_eq item text) (bytes_eq-Decides item (codes "*")) (bytes_eq-Decides item text)

takes_name-Decides : (names : List (List ℕ)) (name : List ℕ) → Decides (takes_name names name) (IsNameTaken names name)
takes_name-Decides names name = Decides-or (has_none names) (has_text names name) (has_none-Decides names) (has_text-Decides names name)

-- an entry other than `*`
abbrev IsNamedPlainly : RequestAttrs → List ℕ → Type 0
IsNamedPlainly attrs entry = ((attrs.subresource ≡ []) × (entry ≡ attrs.resource))
    ⊎ ((attrs.subresource ≢ []) × ((entry ≡ combined attrs.resource attrs.subresource) ⊎ (entry ≡ combined (codes "*") attrs.subresource)))

named_by : (attrs : RequestAttrs) (entry : List ℕ) → (entry ≡ codes "*") ⊎ IsNamedPlainly attrs entry → IsResourceNamed attrs entry
named_by attrs entry (inl star) = everything star
named_by attrs entry (inr (inl whole)) = resource whole.0 whole.1
named_by attrs entry (inr (inr (present, inl own))) = subresource present own
named_by attrs entry (inr (inr (present, inr each))) = of_each_resource present each

by_named : (attrs : RequestAttrs) (entry : List ℕ) → IsResourceNamed attrs entry → (entry ≡ codes "*") ⊎ IsNamedPlainly attrs entry
by_named attrs entry (everything star) = inl star
by_named attrs entry (resource empty is) = inr (inl (empty, is))
by_named attrs entry (subresource present is) = inr (inr (present, inl is))
by_named attrs entry (of_each_resource present is) = inr (inr (present, inr is))

-- one of two tests, by a third
pub Decides-if : {P Q R : Type 0} (a b c : Bool) → Decides a P → Decides b Q → Decides c R → Decides (if a then b else c) ((P × Q) ⊎ ((P → ⊥) × R))
Decides-if {P} {Q} {R} true b c tells_a tells_b tells_c = ((λ yes. inl (tells_a.0 refl, tells_b.0 yes)), (λ either. ⊎_elim (λ first. tells_b.1 first.1) (λ second. absurd (second.0 (tells_a.0 refl))) either))
Decides-if {P} {Q} {R} false b c tells_a tells_b tells_c = (
  (λ yes. inr ((λ holds. let no : false ≡ true = tells_a.1 holds in cc), tells_c.0 yes)),
  (λ either. ⊎_elim (λ first. let no : false ≡ true = tells_a.1 first.0 in absurd (cc)) (λ second. tells_c.1 second.1) either),
)

names_resource-Decides : (attrs : RequestAttrs) (entry : List ℕ) → Decides (names_resource attrs entry) (IsResourceNamed attrs entry)
names_resource-Decides attrs entry = Decides-like (names_resource attrs entry) (named_by attrs entry) (by_named attrs entry)
    (Decides-or (bytes_eq entry (codes "*")) _ (bytes_eq-Decides entry (codes "*"))
    (Decides-if (has_none attrs.subresource) (bytes_eq entry attrs.resource) (bytes_eq entry (combined attrs.resource attrs.subresource) || bytes_eq entry (combined (codes "*") attrs.subresource))
    (has_none-Decides attrs.subresource)
    (bytes_eq-Decides entry attrs.resource)
    (Decides-or (bytes_eq entry (combined attrs.resource attrs.subresource)) (bytes_eq entry (combined (codes "*") attrs.subresource))
    (bytes_eq-Decides entry (combined attrs.resource attrs.subresource)) (bytes_eq-Decides entry (combined (codes "*") attrs.subresource)))))

grants_resource-Decides : (attrs : RequestAttrs) (rule : PolicyRule) → Decides (grants_resource attrs rule) (GrantsResource attrs rule)
grants_resource-Decides attrs rule = Decides-like (grants_resource attrs rule)
    (λ parts. record { is_resource = parts.0; verb = parts.1.0; group = parts.1.1.0; named = parts.1.1.1.0; name = parts.1.1.1.1 })
    (λ (parts : GrantsResource attrs rule). (parts.is_resource, (parts.verb, (parts.group, (parts.named, parts.name)))))
    (Decides-and attrs.is_resource _ (Decides-flag attrs.is_resource)
    (Decides-and (list_any (takes_text attrs.verb) rule.verbs) _ (Decides-any (takes_text attrs.verb) (IsTextTaken attrs.verb) (takes_text-Decides attrs.verb) rule.verbs)
    (Decides-and (list_any (takes_text attrs.group) rule.api_groups) _ (Decides-any (takes_text attrs.group) (IsTextTaken attrs.group) (takes_text-Decides attrs.group) rule.api_groups)
    (Decides-and (list_any (names_resource attrs) rule.resources) (takes_name rule.resource_names attrs.name)
    (Decides-any (names_resource attrs) (IsResourceNamed attrs) (names_resource-Decides attrs) rule.resources)
    (takes_name-Decides rule.resource_names attrs.name)))))

grants_path-Decides : (attrs : RequestAttrs) (rule : PolicyRule) → Decides (grants_path attrs rule) (GrantsPath attrs rule)
grants_path-Decides attrs rule = Decides-like (grants_path attrs rule)
    (λ parts. record { is_path = parts.0; verb = parts.1.0; path = parts.1.1 })
    (λ (parts : GrantsPath attrs rule). (parts.is_path, (parts.verb, parts.path)))
    (Decides-and (not attrs.is_resource) _ (Decides-unset attrs.is_resource)
    (Decides-and (list_any (takes_text attrs.verb) rule.verbs) (list_any (λ entry. path_matches entry attrs.path) rule.non_resource_urls)
    (Decides-any (takes_text attrs.verb) (IsTextTaken attrs.verb) (takes_text-Decides attrs.verb) rule.verbs)
    (Decides-any (λ entry. path_matches entry attrs.path) (IsPathTaken attrs.path) (λ entry. path_matches-Decides entry attrs.path) rule.non_resource_urls)))

pub grants-Decides : (attrs : RequestAttrs) (rules : List PolicyRule) → Decides (grants attrs rules) (Grants rules attrs)
grants-Decides attrs rules = Decides-any (λ rule. grants_resource attrs rule || grants_path attrs rule) (λ rule. GrantsResource attrs rule ⊎ GrantsPath attrs rule)
    (λ rule. Decides-or (grants_resource attrs rule) (grants_path attrs rule) (grants_resource-Decides attrs rule) (grants_path-Decides attrs rule)) rules

means-Decides : (who : User) (subject : Subject) → Decides (means who subject) (Matches subject who)
means-Decides who (UserNamed name) = bytes_eq-Decides who.name name
means-Decides who (Group name) = has_text-Decides who.groups name
means-Decides who (ServiceAccount namespace name) =
    Decides-and (not (has_none namespace)) (bytes_eq who.name (account_user namespace name)) (Decides-not (has_none namespace) (has_none-Decides namespace))
    (bytes_eq-Decides who.name (account_user namespace name))

pub any_meant-Decides : (who : User) (subjects : List Subject) → Decides (list_any (means who) subjects) (Any (λ subject. Matches subject who) subjects)
any_meant-Decides who subjects = Decides-any (means who) (λ subject. Matches subject who) (means-Decides who) subjects
