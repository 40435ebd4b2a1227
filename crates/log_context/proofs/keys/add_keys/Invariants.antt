use Rattle.std.specs.Prelude.{◌⊎◌, ◌↔◌, take, IsTrue, Contains}
use Rattle.std.specs.BTreeSet.{contains}
use Rattle.base_types.specs.declared.kubernetes.key.ObjectKey.{ObjectKey}
use Rattle.clouds.specs.Kept.{key_order}
use Rattle.log_context.proofs.keys.add_keys.Given as goal

abbrev pub invariant-loop-key : goal.invariant-loop-key
invariant-loop-key l = (key : ObjectKey) → IsTrue (contains key_order l.keys key) ↔ (IsTrue (contains key_order l.initial.keys key) ⊎ Contains (take l.key-index l.more) key)
