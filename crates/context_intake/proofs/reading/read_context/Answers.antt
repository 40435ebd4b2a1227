use Rattle.std.proofs.Common.{◌≡◌, Err}
use Rattle.context_intake.specs.declared.stop.Stop.TheVariants.{OutOfMemory, ReadFault}
use Rattle.context_intake.proofs.ReadingFacts.{reads_none}
use Rattle.context_intake.proofs.reading.read_context.Goals as goal

pub returns-in_default-clause-reads : goal.returns-in_default-clause-reads
returns-in_default-clause-reads g c = reads_none c.args.setup.now c.args.log.now c.requires _ _ (g.D.Desk.left c.args.desk.now) (g.D.Desk.faults c.args.desk.now) (λ is. let no : Err OutOfMemory ≡ Err ReadFault = is in cc)
