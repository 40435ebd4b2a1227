use Rattle.std.proofs.Common.{subst}
use Rattle.log_intake.specs.Setup.{AnswersSetup}
use Rattle.log_intake.proofs.SetupFacts.{setup_told}
use Rattle.log_intake.proofs.setup.read_setup_named.Goals as goal

pub returns-in-Ok-clause-reads : goal.returns-in-Ok-clause-reads
returns-in-Ok-clause-reads g c =
    setup_told _ _ _ _ _ c.setup_of.result _ c.with_seed.ensures.setup c.in-Ok.ensures.reads (subst (λ bytes. AnswersSetup bytes c.setup_of.result) c.as_slice-bytes.ensures c.setup_of.ensures.answer) c.setup_of.ensures.sound c.setup_of.ensures.few c.setup_of.ensures.no_fault
