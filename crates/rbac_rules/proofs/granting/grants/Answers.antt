use Rattle.std.proofs.Common.{rules, tests, ◌⊎◌}
use Rattle.std.proofs.lemmas.Iterator.{YieldsList-from_slice, cases_from_any}
use Rattle.rbac_rules.proofs.Choosing.{any_decides}
use Rattle.rbac_rules.specs.Granting.{GrantsResource, GrantsPath}
use Rattle.rbac_rules.proofs.granting.grants.Goals as goal

pub returns : goal.returns
returns c =
    any_decides (λ rule. GrantsResource c.args.attrs.now rule ⊎ GrantsPath c.args.attrs.now rule) c.any.result c.args.rules.now
    (cases_from_any _ _ _ (λ rule. GrantsResource c.args.attrs.now rule ⊎ GrantsPath c.args.attrs.now rule) (λ rule. GrantsResource c.args.attrs.now rule ⊎ GrantsPath c.args.attrs.now rule → ⊥) c.any.ensures.ran (YieldsList-from_slice c.args.rules.now (cc)) (λ x q k. search (rules, tests)) (λ x q k. search (rules, tests)))
