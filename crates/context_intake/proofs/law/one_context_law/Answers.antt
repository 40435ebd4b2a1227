use Rattle.context_intake.proofs.OneContextFacts.{one_context, one_refusal, one_way}
use Rattle.context_intake.proofs.law.one_context_law.Goals as goal

pub returns-clause-refused : goal.returns-clause-refused
returns-clause-refused c = one_refusal

pub returns-clause-either : goal.returns-clause-either
returns-clause-either c = one_way

pub returns-clause-told : goal.returns-clause-told
returns-clause-told c = one_context
