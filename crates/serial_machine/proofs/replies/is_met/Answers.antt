use Rattle.std.proofs.Common.{sym, subst}
use Rattle.std.specs.Prelude.{◌↔◌, IsTrue, Some}
use Rattle.history_model.specs.Making.{MeetsConditions}
use Rattle.object_past.specs.Modelled.{version_of}
use Rattle.write_groups.proofs.Meeting.{met_told}
use Rattle.write_groups.specs.Modelled.{conditions_of}
use Rattle.serial_machine.proofs.replies.is_met.Goals as goal

pub returns : goal.returns
returns c = subst (λ met. IsTrue met ↔ MeetsConditions (conditions_of c.args.asked.now) (Some (version_of c.args.version.now))) (sym c.are_met.ensures)
    (met_told c.args.asked.now c.args.version.now.revision c.args.version.now.uid)
