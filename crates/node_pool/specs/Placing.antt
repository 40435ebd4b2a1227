-- How a store takes a tree, and what is answered.
use Rattle.std.specs.Prelude.{◌≡◌, ◌<◌, ◌≤◌, ◌↔◌, ℕ, Some, Result, Err, length, slice_get, OnOk, OnErr, IfOk}
use Rattle.base_types.specs.Meaning.{Meaning}
use Rattle.node_pool.specs.declared.fault.PoolFault.{PoolFault}
use Rattle.node_pool.specs.declared.fault.PoolFault.TheVariants.{Full}
use Rattle.node_pool.specs.Kept.{Kept}
use Rattle.node_pool.specs.Subtrees.{with_tree}

-- limit and names stay; a number that is answered is the tree's, which then stands behind the others where they lacked
-- it, within the limit; `Full` is answered exactly where that would be above the limit; after a refusal the trees are
-- those of before
pub record PlacesTree (old new : Kept) (tree : Meaning) (answer : Result ℕ PoolFault) : Type 0 where
  pub limit : new.limit ≡ old.limit
  pub names : new.names ≡ old.names
  pub placed : OnOk answer (new.trees ≡ with_tree old.trees tree)
  pub number : IfOk answer (λ n. slice_get new.trees n ≡ Some tree)
  pub fits : OnOk answer (length (with_tree old.trees tree) ≤ old.limit)
  pub full : (answer ≡ Err Full) ↔ (old.limit < length (with_tree old.trees tree))
  pub refused : OnErr answer (new.trees ≡ old.trees)
