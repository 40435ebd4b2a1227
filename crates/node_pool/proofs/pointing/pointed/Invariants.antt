use Rattle.std.proofs.Common.{◌≡◌, ◌<◌, length, drop, slice_get}
use Rattle.std.specs.Prelude.{option_and_then}
use Rattle.base_types.specs.Pointers.{pointed}
use Rattle.node_pool.proofs.pointing.pointed.Given as goal

abbrev pub invariant-loop-token : goal.invariant-loop-token
invariant-loop-token l = record {
  within : l.here < length l.store.trees;
  found : option_and_then (pointed (drop l.token-index l.token-items)) (slice_get l.store.trees l.here) ≡ option_and_then (pointed l.token-items) (slice_get l.store.trees l.number);
}
