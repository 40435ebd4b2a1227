use Rattle.std.proofs.Common.{subst}
use Rattle.std.proofs.lemmas.Result.{IfOk-weaker}
use Rattle.context_intake.specs.Built.{IsBuiltAs}
use Rattle.context_intake.specs.Contexts.{IsFoundIn, with_chains}
use Rattle.context_intake.specs.declared.told.Intake.{Intake}
use Rattle.context_intake.proofs.ReadingFacts.{found_built}
use Rattle.context_intake.proofs.reading.told_by.Goals as goal

pub returns-clause-found : goal.returns-clause-found
returns-clause-found g c =
    IfOk-weaker c.told_of.result (IsBuiltAs c.build.result) (IsFoundIn (with_chains c.args.setup c.args.events) c.args.events)
    (subst (λ setup. (told : Intake) → IsBuiltAs c.build.result told → IsFoundIn setup c.args.events told) c.in_ok-chained.ensures.chains
    (found_built c.in_ok-chained.chained c.args.events c.build.result
    (IfOk-weaker c.build.result _ _ (λ known built. built.setup) c.build.ensures.built)
    (IfOk-weaker c.build.result _ _ (λ known built. built.events) c.build.ensures.built)
    (IfOk-weaker c.build.result _ _ (λ known built. built.told) c.build.ensures.built)
    c.build.ensures.full
    (IfOk-weaker c.build.result _ _ (λ known built. built.fits) c.build.ensures.built)))
    c.told_of.ensures.told
