use Rattle.context_laws.proofs.law.asking_law.Goals as goal

pub returns : goal.returns
returns c = c.body_law.ensures
