use Rattle.std.proofs.Common.{ltb, arith, rules, subst, sym}
use Rattle.std.proofs.lemmas.List.Sorted.{IsPartitionPoint-from_clause}
use Rattle.strict_order.specs.declared.latest.LatestMark.{LatestMark}
use Rattle.strict_order.proofs.Finding.{IsLater, IsLater-max, IsPrinted-of, IsPrinted-own, marks_parted}
use Rattle.strict_order.proofs.latest.first_moment.Goals as goal

pub returns-then-before-eq0 : goal.returns-then-before-eq0
returns-then-before-eq0 c = λ things latest.
    let place = IsPartitionPoint-from_clause (λ (mark : LatestMark). ltb mark.number c.args.thing.now.least) _ _ c.partition_point-before.ensures.partitioned (marks_parted things _ _ latest) (λ a r q k. search rules) in
    IsPrinted-own things _ _ _ latest place c.if-before-eq0.true

pub returns : goal.returns
returns c = λ things latest.
    let place = IsPartitionPoint-from_clause (λ (mark : LatestMark). ltb mark.number c.args.thing.now.least) _ _ c.partition_point-before.ensures.partitioned (marks_parted things _ _ latest) (λ a r q k. search rules) in
    IsPrinted-of things _ _ _ _ _ latest place (omega arith) c.partition_point-before.ensures.bound (subst (IsLater _ _) (sym c.max.ensures) (IsLater-max _ _))
