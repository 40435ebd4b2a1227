-- What is a policy (Kubernetes `audit.k8s.io/v1`, Policy and PolicyRule). Unknown members are ignored; a list that is
-- missing is empty.
use Rattle.std.specs.Prelude.{◌≡◌, ⊤, ℕ, ◌+◌, ◌-◌, ◌^◌, Bool, true, false, ◌&&◌, not, List, [], ◌∷◌, Option, Some, None, Result, Ok, Err, min, bytes_eq, codes, if◌then◌else◌}
use Rattle.base_types.specs.declared.kubernetes.request.StageSet.{StageSet}
use Rattle.base_types.specs.declared.kubernetes.request.Level.TheVariants.{Metadata, Request, RequestResponse}
use Rattle.base_types.specs.declared.kubernetes.request.PolicyLevel.{PolicyLevel}
use Rattle.base_types.specs.declared.kubernetes.request.PolicyLevel.TheVariants.{NoLevel, Set}
use Rattle.base_types.specs.Meaning.{Meaning}
use Rattle.base_types.specs.Parts.{member_of, text_of, items_of, members_of}
use Rattle.base_types.specs.Texts.{◌>>=◌, texts_at, text_at}
use Rattle.audit_policy.specs.declared.policy.AuditRule.{AuditRule}
use Rattle.audit_policy.specs.declared.policy.GroupResources.{GroupResources}
use Rattle.audit_policy.specs.declared.policy.Policy.{Policy}
use Rattle.audit_policy.specs.declared.policy.PolicyFault.{PolicyFault}
use Rattle.audit_policy.specs.declared.policy.PolicyFault.TheVariants.{Form, OutOfMemory}
use Rattle.audit_policy.specs.Matches.{is_empty}

abbrev pub level_named : List ℕ → Option PolicyLevel
level_named name =
    if bytes_eq name (codes "None") then Some NoLevel
    else (if bytes_eq name (codes "Metadata") then Some (Set Metadata)
    else (if bytes_eq name (codes "Request") then Some (Set Request)
    else (if bytes_eq name (codes "RequestResponse") then Some (Set RequestResponse) else None)))

abbrev pub no_stages : StageSet
no_stages = record { received = false; started = false; complete = false; panic = false }

abbrev pub with_stage : List ℕ → StageSet → Option StageSet
with_stage name stages =
    if bytes_eq name (codes "RequestReceived") then Some (record stages { received = true })
    else (if bytes_eq name (codes "ResponseStarted") then Some (record stages { started = true })
    else (if bytes_eq name (codes "ResponseComplete") then Some (record stages { complete = true })
    else (if bytes_eq name (codes "Panic") then Some (record stages { panic = true }) else None)))

-- these stages and those that the trees name
abbrev pub stages_with : StageSet → List Meaning → Option StageSet
stages_with stages [] = Some stages
stages_with stages (tree ∷ trees) = do
  name ← text_of tree
  more ← with_stage name stages
  stages_with more trees

abbrev pub stages_or_none : Option Meaning → Option StageSet
stages_or_none None = Some no_stages
stages_or_none (Some tree) = items_of tree >>= stages_with no_stages

abbrev pub stages_at : Meaning → Option StageSet
stages_at tree = stages_or_none (member_of (codes "omitStages") tree)

-- an item without a group is of the core group
abbrev pub group_or_core : Option Meaning → Option (List ℕ)
group_or_core None = Some []
group_or_core (Some tree) = text_of tree

abbrev pub item_of : Meaning → Option GroupResources
item_of tree = do
  _ ← members_of tree
  group ← group_or_core (member_of (codes "group") tree)
  resources ← texts_at (codes "resources") tree
  names ← texts_at (codes "resourceNames") tree
  Some (record { group = group; resources = resources; resource_names = names })

abbrev pub items_in : List Meaning → Option (List GroupResources)
items_in [] = Some []
items_in (tree ∷ trees) = do
  item ← item_of tree
  items ← items_in trees
  Some (item ∷ items)

abbrev pub items_or_none : Option Meaning → Option (List GroupResources)
items_or_none None = Some []
items_or_none (Some tree) = items_of tree >>= items_in

-- conditions of both kinds are on no request
abbrev pub mixes_kinds : AuditRule → Bool
mixes_kinds rule = not (is_empty rule.non_resource_urls) && not (is_empty rule.resources && is_empty rule.namespaces)

abbrev pub unmixed : AuditRule → Option AuditRule
unmixed rule = if mixes_kinds rule then None else Some rule

abbrev pub rule_of : Meaning → Option AuditRule
rule_of tree = do
  name ← text_at (codes "level") tree
  level ← level_named name
  users ← texts_at (codes "users") tree
  user_groups ← texts_at (codes "userGroups") tree
  verbs ← texts_at (codes "verbs") tree
  namespaces ← texts_at (codes "namespaces") tree
  urls ← texts_at (codes "nonResourceURLs") tree
  resources ← items_or_none (member_of (codes "resources") tree)
  omitted ← stages_at tree
  unmixed (record {
    level = level;
    users = users;
    user_groups = user_groups;
    verbs = verbs;
    namespaces = namespaces;
    non_resource_urls = urls;
    resources = resources;
    omitted = omitted;
  })

-- each rule, or the number of the first that isn't in its form; numbers stand still at 2 ^ 32 - 1
abbrev pub then_rules : ℕ → Option AuditRule → Result (List AuditRule) ℕ → Result (List AuditRule) ℕ
then_rules number None rest = Err (min number (2 ^ 32 - 1))
then_rules number (Some rule) (Ok rules) = Ok (rule ∷ rules)
then_rules number (Some rule) (Err broken) = Err broken

abbrev pub rules_from : ℕ → List Meaning → Result (List AuditRule) ℕ
rules_from number [] = Ok []
rules_from number (tree ∷ trees) = then_rules number (rule_of tree) (rules_from (number + 1) trees)

-- the omitted stages and the rules' trees of an object that says that it is a policy
abbrev pub heading : Meaning → Option (StageSet × List Meaning)
heading tree = do
  kind ← text_at (codes "kind") tree
  version ← text_at (codes "apiVersion") tree
  value ← member_of (codes "rules") tree
  rules ← items_of value
  omitted ← stages_at tree
  if bytes_eq kind (codes "Policy") && bytes_eq version (codes "audit.k8s.io/v1") then Some (omitted, rules) else None

abbrev pub policy_with : StageSet → Result (List AuditRule) ℕ → Result Policy ℕ
policy_with omitted (Ok rules) = Ok (record { omitted = omitted; rules = rules })
policy_with omitted (Err number) = Err number

abbrev pub headed_policy : Option (StageSet × List Meaning) → Result Policy ℕ
headed_policy None = Err 0
headed_policy (Some heading) = policy_with heading.0 (rules_from 1 heading.1)

-- the policy, or the first part that isn't in its form: 0 is the policy itself, and its rules count from 1
abbrev pub policy_of : Meaning → Result Policy ℕ
policy_of tree = headed_policy (heading tree)

-- want of memory says nothing of the trees
abbrev pub IsRulesCause : List Meaning → PolicyFault → Type 0
IsRulesCause trees (Form number) = rules_from 1 trees ≡ Err number
IsRulesCause trees OutOfMemory = ⊤

abbrev pub IsCause : Meaning → PolicyFault → Type 0
IsCause tree (Form number) = policy_of tree ≡ Err number
IsCause tree OutOfMemory = ⊤
