use Rattle.std.proofs.Common.{◌≡◌, ◌++◌, drop}
use Rattle.std.specs.Prelude.{option_map}
use Rattle.rbac_rules.specs.Forms.{subjects_in}
use Rattle.rbac_rules.proofs.reading.read_subjects.Given as goal

abbrev pub invariant-loop-tree : goal.invariant-loop-tree
invariant-loop-tree l = subjects_in l.home l.trees ≡ option_map (λ rest. l.subjects ++ rest) (subjects_in l.home (drop l.tree-index l.trees))
