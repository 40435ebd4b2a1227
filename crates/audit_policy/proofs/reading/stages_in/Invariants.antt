use Rattle.std.proofs.Common.{◌≡◌, drop}
use Rattle.audit_policy.specs.Forms.{stages_with, no_stages}
use Rattle.audit_policy.proofs.reading.stages_in.Given as goal

abbrev pub invariant-loop-tree : goal.invariant-loop-tree
invariant-loop-tree l = stages_with no_stages l.trees ≡ stages_with l.stages (drop l.tree-index l.trees)
