use Rattle.log_context.proofs.Faulting.{fault_is, fault_there}
use Rattle.log_context.proofs.context.fault_at.Goals as goal

pub returns-in-Some : goal.returns-in-Some
returns-in-Some c = λ h event are known. fault_is h c.args.faults.now c.args.number event c.in-Some.fault.now are known c.in-Some.ensures.lookup.3.0 c.in-Some.ensures.lookup.1

pub returns-in-None : goal.returns-in-None
returns-in-None c = λ h event are known. absurd (fault_there h c.args.faults.now c.args.number event are known c.in-None.ensures.lookup.3)
