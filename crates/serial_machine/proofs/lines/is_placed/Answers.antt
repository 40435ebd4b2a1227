use Rattle.std.proofs.Common.{Some, sym, subst, ◌↔◌}
use Rattle.std.specs.Prelude.{IsTrue}
use Rattle.history_model.specs.Checking.{HasDecisionWord}
use Rattle.serial_machine.proofs.Deciding.{placed_so}
use Rattle.serial_machine.proofs.lines.is_placed.Goals as goal

pub returns-in-Some : goal.returns-in-Some
returns-in-Some c = subst (λ p. IsTrue c.is_same.result ↔ HasDecisionWord (Some c.args.decided) p) (sym c.in-Some.is) (placed_so c.args.decided c.in-Some.placed c.is_same.result c.is_same.ensures)
