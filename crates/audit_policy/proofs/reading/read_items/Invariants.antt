use Rattle.std.proofs.Common.{◌≡◌, ◌++◌, drop}
use Rattle.std.specs.Prelude.{option_map}
use Rattle.audit_policy.specs.Forms.{items_in}
use Rattle.audit_policy.proofs.reading.read_items.Given as goal

abbrev pub invariant-loop-tree : goal.invariant-loop-tree
invariant-loop-tree l = items_in l.trees ≡ option_map (λ rest. l.items ++ rest) (items_in (drop l.tree-index l.trees))
