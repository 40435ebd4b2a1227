use Rattle.std.proofs.Common.{◌≡◌, ◌+◌, drop}
use Rattle.audit_policy.specs.Forms.{rules_from}
use Rattle.audit_policy.proofs.RuleLemmas.{behind}
use Rattle.audit_policy.proofs.reading.read_rules.Given as goal

abbrev pub invariant-loop-i : goal.invariant-loop-i
invariant-loop-i l = rules_from 1 l.trees ≡ behind l.rules (rules_from (l.i + 1) (drop l.i l.trees))
