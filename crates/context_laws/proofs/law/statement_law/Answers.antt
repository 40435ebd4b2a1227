use Rattle.context_laws.proofs.law.statement_law.Goals as goal

pub returns : goal.returns
returns c = record {
  decided = c.deciding_law.ensures;
  classes = c.class_law.ensures;
  bodies = c.asking_law.ensures;
}
