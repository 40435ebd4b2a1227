use Rattle.std.specs.Prelude.{◌⊎◌, ◌↔◌, take, IsTrue, Any}
use Rattle.std.specs.BTreeSet.{contains}
use Rattle.base_types.specs.declared.kubernetes.key.ObjectKey.{ObjectKey}
use Rattle.clouds.specs.Kept.{key_order}
use Rattle.log_context.specs.Keyed.{IsNamedBy}
use Rattle.log_context.proofs.keys.add_named.Given as goal

abbrev pub invariant-loop-event : goal.invariant-loop-event
invariant-loop-event l = (key : ObjectKey) → IsTrue (contains key_order l.keys key) ↔ (IsTrue (contains key_order l.initial.keys key) ⊎ Any (IsNamedBy key) (take l.event-index l.log))
