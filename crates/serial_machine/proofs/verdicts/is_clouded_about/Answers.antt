use Rattle.std.proofs.Common.{subst}
use Rattle.std.specs.Prelude.{◌↔◌, IsTrue}
use Rattle.history_model.specs.Clouds.{IsCloudedWithin}
use Rattle.log_context.specs.Histories.{history_of}
use Rattle.serial_machine.proofs.Telling.{clouded_about}
use Rattle.serial_machine.proofs.verdicts.is_clouded_about.Goals as goal

pub returns : goal.returns
returns c = subst (λ low. IsTrue c.is_some.result ↔ IsCloudedWithin (history_of c.args.context.now) c.args.key.now low c.args.range.high) c.saturating_sub-low.ensures
    (clouded_about c.clouds.result.now (history_of c.args.context.now) c.args.key.now c.saturating_sub-low.result c.args.range.high c.meets.result c.is_some.result c.clouds.ensures.clouded
    c.meets.ensures.some c.meets.ensures.none c.is_some.ensures)
