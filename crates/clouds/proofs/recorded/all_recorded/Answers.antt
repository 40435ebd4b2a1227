use Rattle.std.proofs.Common.{inl, inr}
use Rattle.clouds.proofs.Firsts.{AreFirstClouded-permuted, AreRecorded-same}
use Rattle.clouds.proofs.Keeping.{AreRecorded-permuted}
use Rattle.clouds.proofs.recorded.all_recorded.Goals as goal

pub returns-then-is_empty-clause-revisions : goal.returns-then-is_empty-clause-revisions
returns-then-is_empty-clause-revisions c = inl (c.is_empty.ensures.0 c.if-is_empty.true)

pub returns-then-is_empty-clause-firsts : goal.returns-then-is_empty-clause-firsts
returns-then-is_empty-clause-firsts c = inl (c.is_empty.ensures.0 c.if-is_empty.true)

pub returns-clause-revisions : goal.returns-clause-revisions
returns-clause-revisions c =
    let all = rw c.deref.ensures.value at c.in_ok-recorded.ensures.revisions in
    inr (AreRecorded-same _ _ _ c.in_ok-add_each_first.ensures.revisions (AreRecorded-permuted _ _ _ c.in_ok-order.ensures all))

pub returns-clause-firsts : goal.returns-clause-firsts
returns-clause-firsts c = inr (λ spans filed key.
    let firsts = rw c.deref-2.ensures.value at c.in_ok-add_each_first.ensures.firsts spans filed key in
    AreFirstClouded-permuted _ _ _ key _ c.in_ok-order.ensures firsts)
