use Rattle.std.proofs.Common.{◌⊎◌}
use Rattle.history_model.specs.Local.{IsFixedBy}
use Rattle.history_model.specs.Words.{word}
use Rattle.write_groups.specs.Modelled.{event_of}
use Rattle.event_claims.specs.Standing.{IsOfPolicy, HasPolicyCode, HasWordCode}
use Rattle.event_claims.proofs.Failing.{wrong_fixed}
use Rattle.event_claims.proofs.Lining.{right_tells}
use Rattle.event_claims.proofs.line.is_fixed_right.Goals as goal

pub returns : goal.returns
returns g c = λ h v known said.
    let e = event_of c.args.case.event.now in
    right_tells (IsOfPolicy e × IsFixedBy h e (word h c.args.case.number e)) (λ code. HasPolicyCode e code ⊎ HasWordCode h e (word h c.args.case.number e) code)
    (wrong_fixed h c.args.case.number e) c.fixed_fault.result c.is_none.result (c.fixed_fault.ensures h v known said) c.is_none.ensures
