use Rattle.std.proofs.Common.{rules, tests}
use Rattle.std.proofs.lemmas.Iterator.{YieldsList-from_slice, cases_from_any}
use Rattle.rbac_rules.specs.Granting.{IsPathTaken}
use Rattle.rbac_rules.proofs.Choosing.{any_decides}
use Rattle.rbac_rules.proofs.Texts.{path_matches-Decides}
use Rattle.rbac_rules.proofs.granting.any_path.Goals as goal

pub returns : goal.returns
returns c =
    any_decides (IsPathTaken c.args.path.now) c.any.result c.args.entries.now
    (cases_from_any _ _ _ (IsPathTaken c.args.path.now) (λ x. IsPathTaken c.args.path.now x → ⊥) c.any.ensures.ran (YieldsList-from_slice c.args.entries.now (cc))
    (λ x q k. let told = path_matches-Decides x.now c.args.path.now in search (rules, tests, told))
    (λ x q k. let told = path_matches-Decides x.now c.args.path.now in search (rules, tests, told)))
