use Rattle.std.proofs.Common.{rules, tests}
use Rattle.std.proofs.lemmas.Iterator.{YieldsList-from_slice, cases_from_any}
use Rattle.rbac_rules.proofs.Choosing.{any_decides}
use Rattle.rbac_rules.specs.Granting.{IsResourceNamed}
use Rattle.rbac_rules.proofs.granting.any_resource.Goals as goal

pub returns : goal.returns
returns c =
    any_decides (IsResourceNamed c.args.attrs.now) c.any.result c.args.entries.now
    (cases_from_any _ _ _ (IsResourceNamed c.args.attrs.now) (λ x. IsResourceNamed c.args.attrs.now x → ⊥) c.any.ensures.ran (YieldsList-from_slice c.args.entries.now (cc)) (λ x q k. search (rules, tests)) (λ x q k. search (rules, tests)))
