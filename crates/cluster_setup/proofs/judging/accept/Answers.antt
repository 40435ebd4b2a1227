use Rattle.std.proofs.Common.{◌≡◌, Err, sym, ap, subst, ◌∙◌}
use Rattle.setup_file.specs.Reading.{IsTreeOf}
use Rattle.setup_file.specs.declared.fault.SetupFault.TheVariants.{Rule}
use Rattle.cluster_setup.proofs.Same.{broken_from}
use Rattle.cluster_setup.proofs.judging.accept.Goals as goal

pub returns-in-Err-clause-broken : goal.returns-in-Err-clause-broken
returns-in-Err-clause-broken c = λ rule e.
    let same : c.in-Err.fault ≡ Rule rule = cc in
    let first : c.as_bytes.result.now ≡ c.as_bytes-2.result.now = c.as_bytes.ensures.value ∙ sym c.as_bytes-2.ensures.value in
    let own = subst (λ b. IsTreeOf b c.args.tree.now) first (c.in_ok-is_tree_of.ensures.0 c.if-not-branch.false) in
    broken_from c.as_bytes-2.result.now c.args.tree.now rule (c.as_bytes-2.ensures.value ∙ c.in_ok-text.ensures) own (c.in-Err.ensures.cause rule (ap (λ fault. Err fault) same))
