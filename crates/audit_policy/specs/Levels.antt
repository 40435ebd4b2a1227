-- The level that a policy gives a request, and the stages that it omits (Kubernetes "Auditing", "Audit policy": the
-- first matching rule sets the audit level).
use Rattle.std.specs.Prelude.{◌||◌, Option, Some, None, find}
use Rattle.base_types.specs.declared.kubernetes.request.RequestAttrs.{RequestAttrs}
use Rattle.base_types.specs.declared.kubernetes.request.User.{User}
use Rattle.base_types.specs.declared.kubernetes.request.StageSet.{StageSet}
use Rattle.base_types.specs.declared.kubernetes.request.PolicyLevel.{PolicyLevel}
use Rattle.base_types.specs.declared.kubernetes.request.PolicyLevel.TheVariants.{NoLevel}
use Rattle.audit_policy.specs.declared.policy.AuditRule.{AuditRule}
use Rattle.audit_policy.specs.declared.policy.Policy.{Policy}
use Rattle.audit_policy.specs.Matches.{rule_matches}

abbrev pub union : StageSet → StageSet → StageSet
union a b = record {
  received = a.received || b.received;
  started = a.started || b.started;
  complete = a.complete || b.complete;
  panic = a.panic || b.panic;
}

abbrev pub level_by : StageSet → Option AuditRule → PolicyLevel × StageSet
level_by omitted None = (NoLevel, omitted)
level_by omitted (Some rule) = (rule.level, union omitted rule.omitted)

abbrev pub policy_level : Policy → RequestAttrs → User → PolicyLevel × StageSet
policy_level policy attrs user = level_by policy.omitted (find (rule_matches attrs user) policy.rules)
