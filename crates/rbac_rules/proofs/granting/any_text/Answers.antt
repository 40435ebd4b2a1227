use Rattle.std.proofs.Common.{rules, tests}
use Rattle.std.proofs.lemmas.Iterator.{YieldsList-from_slice, cases_from_any}
use Rattle.rbac_rules.proofs.Choosing.{any_decides}
use Rattle.rbac_rules.specs.Granting.{IsTextTaken}
use Rattle.rbac_rules.proofs.granting.any_text.Goals as goal

pub returns : goal.returns
returns c =
    any_decides (IsTextTaken c.args.text.now) c.any.result c.args.items.now
    (cases_from_any _ _ _ (IsTextTaken c.args.text.now) (λ x. IsTextTaken c.args.text.now x → ⊥) c.any.ensures.ran (YieldsList-from_slice c.args.items.now (cc)) (λ x q k. search (rules, tests)) (λ x q k. search (rules, tests)))
