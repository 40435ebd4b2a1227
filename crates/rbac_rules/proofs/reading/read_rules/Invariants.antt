use Rattle.std.proofs.Common.{◌≡◌, ◌++◌, drop}
use Rattle.std.specs.Prelude.{option_map}
use Rattle.rbac_rules.specs.Forms.{rules_in}
use Rattle.rbac_rules.proofs.reading.read_rules.Given as goal

abbrev pub invariant-loop-tree : goal.invariant-loop-tree
invariant-loop-tree l = rules_in l.trees ≡ option_map (λ rest. l.rules ++ rest) (rules_in (drop l.tree-index l.trees))
