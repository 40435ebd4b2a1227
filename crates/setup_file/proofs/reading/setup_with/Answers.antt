use Rattle.std.proofs.Common.{rules, sym}
use Rattle.setup_file.proofs.Parts.{rest_breaks, rest_found}
use Rattle.setup_file.proofs.reading.setup_with.Goals as goal

pub returns-in_err-authorization-clause-cause : goal.returns-in_err-authorization-clause-cause
returns-in_err-authorization-clause-cause c =
    let cause = rw c.as_slice.ensures at c.in_err-authorization.ensures.cause in
    let breaks = rest_breaks c.args.value.now c.in_ok-clocks.clocks c.in_ok-policy.policy c.in_ok-resources.resources c.in_ok-snapshot.snapshot c.in_err-authorization.field-0.0
    (sym c.in_ok-clocks.ensures) c.in_ok-policy.ensures.policy c.in_ok-resources.ensures.resources c.in_ok-snapshot.ensures.snapshot cause in
    search (rules, breaks)

pub returns-clause-setup : goal.returns-clause-setup
returns-clause-setup c =
    let rest = rw c.as_slice.ensures at c.in_ok-authorization.ensures.rest in
    rest_found c.args.value.now c.in_ok-clocks.clocks c.in_ok-policy.policy c.in_ok-resources.resources c.in_ok-snapshot.snapshot c.in_ok-authorization.authorization c.in_ok-authorization.checkpoints
    (sym c.in_ok-clocks.ensures) c.in_ok-policy.ensures.policy c.in_ok-resources.ensures.resources c.in_ok-snapshot.ensures.snapshot rest
