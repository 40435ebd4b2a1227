use Rattle.std.proofs.Common.{arith, rules}
use Rattle.std.proofs.lemmas.List.Sorted.{IsPartitionPoint-from_clause}
use Rattle.time_windows.proofs.Finding.{IsLowest-mark, IsLowest-start, ends_parted, stands_before}
use Rattle.time_windows.proofs.windows.Windows.lowest.Goals as goal

pub returns-then-ended-eq0 : goal.returns-then-ended-eq0
returns-then-ended-eq0 c =
    let clause = rw c.deref.ensures.value at c.partition_point-ended.ensures.partitioned in
    let parts = IsPartitionPoint-from_clause (stands_before c.args.at.0) _ _ clause (ends_parted _ _ _ c.self.invariant.ends) (λ a r q k. search rules) in
    rw (c.get.ensures.value, ← c.self.view_is) (IsLowest-start _ _ _ _ _ c.self.invariant.ends parts c.if-ended-eq0.true)

pub returns : goal.returns
returns c =
    let clause = rw c.deref.ensures.value at c.partition_point-ended.ensures.partitioned in
    let parts = IsPartitionPoint-from_clause (stands_before c.args.at.0) _ _ clause (ends_parted _ _ _ c.self.invariant.ends) (λ a r q k. search rules) in
    let upto = rw c.deref.ensures.value at c.partition_point-ended.ensures.bound in
    rw (c.index.ensures, ← c.self.view_is) (IsLowest-mark _ _ _ _ _ _ c.self.invariant.behind c.self.invariant.ends parts (omega arith) upto)
