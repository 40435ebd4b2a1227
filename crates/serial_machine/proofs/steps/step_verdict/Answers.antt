use Rattle.std.proofs.Common.{subst}
use Rattle.std.proofs.lemmas.Result.{IfOk-weaker}
use Rattle.log_context.specs.Histories.{history_of}
use Rattle.serial_machine.specs.Stepping.{IsVerdictOn, step_of}
use Rattle.serial_machine.proofs.Entering.{scene_here}
use Rattle.serial_machine.proofs.steps.step_verdict.Goals as goal

pub returns : goal.returns
returns c = IfOk-weaker c.verdict.result _ _ (λ found verdict done made. subst (λ objects. IsVerdictOn (history_of c.args.context.now) objects (step_of c.args.step) found)
    (scene_here (history_of c.args.context.now) c.args.machine.now done made) verdict) c.verdict.ensures
