use Rattle.std.proofs.Common.{drop, rules}
use Rattle.std.specs.Ordering.{is_le, is_lt}
use Rattle.std.proofs.lemmas.List.Sorted.{IsPartitionPoint-from_clause}
use Rattle.base_types.specs.declared.kubernetes.key.ObjectKey.{ObjectKey}
use Rattle.object_past.specs.Scopes.{scope_order}
use Rattle.object_past.proofs.Scoping.{AreInOrder-drop, parted_before, parted_upto, scope_exact}
use Rattle.object_past.proofs.scope.keys_in.Goals as goal

pub returns-clause-exact : goal.returns-clause-exact
returns-clause-exact c =
    let keys = c.args.keys.now in
    let group = c.args.group.now in
    let resource = c.args.resource.now in
    let namespace = c.args.namespace.now in
    let before = IsPartitionPoint-from_clause (λ (k : ObjectKey). is_lt (scope_order group resource namespace k)) _ _ c.partition_point-before.ensures.partitioned
    (parted_before group resource namespace keys c.requires) (λ a r q k. search rules) in
    let clause = rw c.split_at.ensures.back at c.partition_point-within.ensures.partitioned in
    let bound = rw c.split_at.ensures.back at c.partition_point-within.ensures.bound in
    let scope = rw c.split_at.ensures.back at c.split_at-2.ensures.front in
    let within = IsPartitionPoint-from_clause (λ (k : ObjectKey). is_le (scope_order group resource namespace k)) _ _ clause
    (parted_upto group resource namespace (drop c.partition_point-before.result keys) (AreInOrder-drop c.partition_point-before.result keys c.requires)) (λ a r q k. search rules) in
    scope_exact group resource namespace keys c.split_at-2.result.0.now c.partition_point-before.result c.partition_point-within.result c.partition_point-before.ensures.bound bound scope before within
