use Rattle.std.proofs.Common.{arith, refl, rules}
use Rattle.std.proofs.lemmas.List.Sorted.{IsPartitionPoint-from_clause}
use Rattle.time_windows.proofs.Finding.{IsBegun-read, IsHighest-before, IsHighest-end, starts_parted, stands_by}
use Rattle.time_windows.proofs.windows.Windows.highest.Goals as goal

pub overflow_sub-result : goal.overflow_sub-result
overflow_sub-result c =
    let clause = rw c.deref.ensures.value at c.partition_point-begun.ensures.partitioned in
    let parts = IsPartitionPoint-from_clause (stands_by c.args.at.0) _ _ clause (starts_parted _ _ _ c.self.invariant.starts) (λ a r q k. search rules) in
    let lookup = rw c.deref-2.ensures.value at c.in-Some.ensures.lookup in
    let begun = IsBegun-read _ _ _ _ _ _ c.self.invariant.behind c.self.invariant.starts parts lookup.3.0 lookup.1 in
    let above = begun.above in
    omega arith

pub returns-in-Some : goal.returns-in-Some
returns-in-Some c =
    let clause = rw c.deref.ensures.value at c.partition_point-begun.ensures.partitioned in
    let parts = IsPartitionPoint-from_clause (stands_by c.args.at.0) _ _ clause (starts_parted _ _ _ c.self.invariant.starts) (λ a r q k. search rules) in
    let lookup = rw c.deref-2.ensures.value at c.in-Some.ensures.lookup in
    rw (← c.self.view_is) (IsHighest-before _ _ _ _ (IsBegun-read _ _ _ _ _ _ c.self.invariant.behind c.self.invariant.starts parts lookup.3.0 lookup.1))

pub returns-in-None : goal.returns-in-None
returns-in-None c =
    let clause = rw c.deref.ensures.value at c.partition_point-begun.ensures.partitioned in
    let parts = IsPartitionPoint-from_clause (stands_by c.args.at.0) _ _ clause (starts_parted _ _ _ c.self.invariant.starts) (λ a r q k. search rules) in
    let lookup = rw c.deref-2.ensures.value at c.in-None.ensures.lookup in
    rw (← c.self.view_is) (IsHighest-end _ _ _ _ _ c.self.invariant.starts parts lookup.3 refl)
