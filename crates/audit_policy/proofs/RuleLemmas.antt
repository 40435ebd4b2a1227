-- A rule, read in its parts, and the rules of a policy, read one after another.
use Rattle.std.proofs.Common.{◌≡◌, ℕ, ◌+◌, ◌<◌, List, [], ◌∷◌, ◌++◌, length, get_or, drop, Option, Some, None, Result, Ok, Err, refl, sym, ap, ◌∙◌, suc, add-one, drop-cons, append_assoc, codes}
use Rattle.base_types.specs.Meaning.{Meaning}
use Rattle.base_types.specs.Parts.{member_of}
use Rattle.base_types.specs.Texts.{◌>>=◌, text_at, texts_at}
use Rattle.base_types.specs.declared.kubernetes.request.PolicyLevel.{PolicyLevel}
use Rattle.base_types.specs.declared.kubernetes.request.StageSet.{StageSet}
use Rattle.audit_policy.specs.declared.policy.AuditRule.{AuditRule}
use Rattle.audit_policy.specs.declared.policy.GroupResources.{GroupResources}
use Rattle.audit_policy.specs.declared.reading.Callers.{Callers}
use Rattle.audit_policy.specs.declared.reading.Targets.{Targets}
use Rattle.audit_policy.specs.Forms.{level_named, stages_at, items_or_none, unmixed, rule_of, rules_from, then_rules}

-- three steps and what follows them, or the three together and then what follows
grouped : {A B C T R : Type 0} (first : Option A) (second : Option B) (third : Option C) (made : A → B → C → T) (next : T → Option R)
    → (first >>= λ x. second >>= λ y. third >>= λ z. next (made x y z)) ≡ ((first >>= λ x. second >>= λ y. third >>= λ z. Some (made x y z)) >>= next)
grouped None second third made next = refl
grouped (Some x) None third made next = refl
grouped (Some x) (Some y) None made next = refl
grouped (Some x) (Some y) (Some z) made next = refl

abbrev made_callers : List (List ℕ) → List (List ℕ) → List (List ℕ) → Callers
made_callers users groups verbs = record { users = users; user_groups = groups; verbs = verbs }

abbrev made_targets : List (List ℕ) → List (List ℕ) → List GroupResources → Targets
made_targets namespaces urls resources = record { namespaces = namespaces; non_resource_urls = urls; resources = resources }

abbrev callers_of : Meaning → Option Callers
callers_of tree = do
  users ← texts_at (codes "users") tree
  groups ← texts_at (codes "userGroups") tree
  verbs ← texts_at (codes "verbs") tree
  Some (made_callers users groups verbs)

abbrev targets_of : Meaning → Option Targets
targets_of tree = do
  namespaces ← texts_at (codes "namespaces") tree
  urls ← texts_at (codes "nonResourceURLs") tree
  resources ← items_or_none (member_of (codes "resources") tree)
  Some (made_targets namespaces urls resources)

abbrev rule_with : PolicyLevel → Callers → Targets → StageSet → AuditRule
rule_with level callers targets omitted = record {
  level = level;
  users = callers.users;
  user_groups = callers.user_groups;
  verbs = callers.verbs;
  namespaces = targets.namespaces;
  non_resource_urls = targets.non_resource_urls;
  resources = targets.resources;
  omitted = omitted;
}

-- the rest of a rule, behind its targets, its callers and its level
abbrev behind_targets : Meaning → PolicyLevel → Callers → Targets → Option AuditRule
behind_targets tree level callers targets = stages_at tree >>= λ omitted. unmixed (rule_with level callers targets omitted)

abbrev behind_callers : Meaning → PolicyLevel → Callers → Option AuditRule
behind_callers tree level callers = do
  namespaces ← texts_at (codes "namespaces") tree
  urls ← texts_at (codes "nonResourceURLs") tree
  resources ← items_or_none (member_of (codes "resources") tree)
  behind_targets tree level callers (made_targets namespaces urls resources)

abbrev behind_level : Meaning → PolicyLevel → Option AuditRule
behind_level tree level = do
  users ← texts_at (codes "users") tree
  groups ← texts_at (codes "userGroups") tree
  verbs ← texts_at (codes "verbs") tree
  behind_callers tree level (made_callers users groups verbs)

-- a rule whose level and callers are known
of_callers : (tree : Meaning) (name : List ℕ) (level : PolicyLevel) (callers : Callers) → Some name ≡ text_at (codes "level") tree → Some level ≡ level_named name → Some callers ≡ callers_of tree
    → (targets_of tree >>= behind_targets tree level callers) ≡ rule_of tree
of_callers tree name level callers named leveled called =
    sym (grouped (texts_at (codes "namespaces") tree) (texts_at (codes "nonResourceURLs") tree) (items_or_none (member_of (codes "resources") tree)) made_targets (behind_targets tree level callers))
    ∙ ap (λ found. found >>= behind_callers tree level) called
    ∙ sym (grouped (texts_at (codes "users") tree) (texts_at (codes "userGroups") tree) (texts_at (codes "verbs") tree) made_callers (behind_callers tree level))
    ∙ ap (λ found. found >>= behind_level tree) leveled
    ∙ ap (λ found. found >>= λ name. level_named name >>= behind_level tree) named

pub without_targets : (tree : Meaning) (name : List ℕ) (level : PolicyLevel) (callers : Callers) → Some name ≡ text_at (codes "level") tree → Some level ≡ level_named name → Some callers ≡ callers_of tree
    → None ≡ targets_of tree → None ≡ rule_of tree
without_targets tree name level callers named leveled called none =
    ap (λ targets. targets >>= behind_targets tree level callers) none ∙ of_callers tree name level callers named leveled called

pub with_parts : (tree : Meaning) (name : List ℕ) (level : PolicyLevel) (callers : Callers) (targets : Targets) (omitted : StageSet) → Some name ≡ text_at (codes "level") tree → Some level ≡ level_named name
    → Some callers ≡ callers_of tree → Some targets ≡ targets_of tree → Some omitted ≡ stages_at tree → unmixed (rule_with level callers targets omitted) ≡ rule_of tree
with_parts tree name level callers targets omitted named leveled called targeted stages =
    ap (λ stages. stages >>= λ omitted. unmixed (rule_with level callers targets omitted)) stages
    ∙ ap (λ targets. targets >>= behind_targets tree level callers) targeted
    ∙ of_callers tree name level callers named leveled called

-- the rules that were read, before what comes of the others
abbrev pub behind : List AuditRule → Result (List AuditRule) ℕ → Result (List AuditRule) ℕ
behind rules (Ok rest) = Ok (rules ++ rest)
behind rules (Err number) = Err number

one_more : (number : ℕ) (rules : List AuditRule) (rule : AuditRule) (rest : Result (List AuditRule) ℕ) → behind rules (then_rules number (Some rule) rest) ≡ behind (rules ++ (rule ∷ [])) rest
one_more number rules rule (Ok rest) = ap Ok (sym (append_assoc rules (rule ∷ []) rest))
one_more number rules rule (Err broken) = refl

-- one more rule in its form
pub rules_step : (trees : List Meaning) (i : ℕ) (rules : List AuditRule) (rule : AuditRule) (tree : Meaning) → i < length trees → tree ≡ get_or trees i tree → rule_of tree ≡ Some rule
    → behind rules (rules_from (i + 1) (drop i trees)) ≡ behind (rules ++ (rule ∷ [])) (rules_from (i + 1 + 1) (drop (i + 1) trees))
rules_step trees i rules rule tree within at read =
    let cut : drop i trees ≡ tree ∷ drop (i + 1) trees = rw (add-one, drop-cons trees i tree) (ap (λ x. x ∷ drop (suc i) trees) (sym at)) in
    ap (λ l. behind rules (rules_from (i + 1) l)) cut
    ∙ ap (λ found. behind rules (then_rules (i + 1) found (rules_from (i + 1 + 1) (drop (i + 1) trees)))) read
    ∙ one_more (i + 1) rules rule (rules_from (i + 1 + 1) (drop (i + 1) trees))
