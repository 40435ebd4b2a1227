use Rattle.std.proofs.Common.{◌≡◌, ◌++◌, drop}
use Rattle.std.specs.Prelude.{option_map}
use Rattle.base_types.specs.Texts.{texts_in}
use Rattle.base_types.proofs.json.texts.copied.Given as goal

abbrev pub invariant-loop-tree : goal.invariant-loop-tree
invariant-loop-tree l = texts_in l.trees ≡ option_map (λ rest. l.texts ++ rest) (texts_in (drop l.tree-index l.trees))
