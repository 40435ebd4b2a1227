use Rattle.std.proofs.Common.{None, Some, ap, arith, subst, sym, ◌∙◌}
use Rattle.clouds.specs.Filed.{AreFiled}
use Rattle.clouds.specs.FirstClouded.{AreFirstClouded}
use Rattle.clouds.specs.Hiding.{AreRevisionsOf}
use Rattle.clouds.specs.Recorded.{firsts_in, revisions_at, revisions_in}
use Rattle.clouds.specs.Writes.{Writes}
use Rattle.clouds.proofs.Firsts.{AreFirstClouded-is, IsFirstPlace-behind, IsFirstUntilNext-clouded}
use Rattle.clouds.proofs.Keeping.{AreRevisionsOf-at, IfNone-first, IfSome-first, clouded_nowhere, other_of}
use Rattle.clouds.proofs.clouds.Clouds.meets.Goals as goal

pub returns-then-is_empty-clause-none : goal.returns-then-is_empty-clause-none
returns-then-is_empty-clause-none c =
    let none = c.is_empty.ensures.0 c.if-is_empty.true in
    rw (← c.self.view_is) (λ place from upto clouded. clouded_nowhere _ _ _ _ c.args.key.now place c.self.invariant.filed none clouded)

pub returns-in-Some-clause-some : goal.returns-in-Some-clause-some
returns-in-Some-clause-some c =
    let all = other_of _ c.is_empty.ensures c.if-is_empty.false c.self.invariant.recorded_all in
    let are : AreRevisionsOf c.args.self.now.revisions c.args.key.now c.revisions_of-revisions.result.now =
    rw (← c.self.view_is) (AreRevisionsOf-at (revisions_at c.self.inside.recorded) _ c.args.key.now c.revisions_of-revisions.result.now all
    (ap revisions_in (sym c.get-recorded.ensures.value) ∙ sym c.revisions_of-revisions.ensures.revisions)) in
    let filed = subst (λ (writes : Writes). AreFiled c.self.inside.filed.named c.self.inside.filed.wide writes.spans) c.self.view_is c.self.invariant.filed in
    IsFirstUntilNext-clouded c.args.self.now c.revisions_of-revisions.result.now c.args.key.now c.args.low c.args.high (Some c.in-Some.place) are (c.in-Some.ensures c.args.self.now.spans filed)

pub returns-clause-some : goal.returns-clause-some
returns-clause-some c =
    let fits = c.ranges.high.fits in
    let all = other_of _ c.is_empty.ensures c.if-is_empty.false c.self.invariant.recorded_all in
    let are : AreRevisionsOf c.args.self.now.revisions c.args.key.now c.revisions_of-revisions.result.now =
    rw (← c.self.view_is) (AreRevisionsOf-at (revisions_at c.self.inside.recorded) _ c.args.key.now c.revisions_of-revisions.result.now all
    (ap revisions_in (sym c.get-recorded.ensures.value) ∙ sym c.revisions_of-revisions.ensures.revisions)) in
    let filed = subst (λ (writes : Writes). AreFiled c.self.inside.filed.named c.self.inside.filed.wide writes.spans) c.self.view_is c.self.invariant.filed in
    let firsts : AreFirstClouded c.args.self.now c.args.key.now c.firsts_of.result.now =
    rw (← c.self.view_is) (AreFirstClouded-is _ _ _ _ (ap firsts_in (sym c.get-recorded.ensures.value) ∙ sym c.firsts_of.ensures.firsts)
    (other_of _ c.is_empty.ensures c.if-is_empty.false c.self.invariant.firsts c.args.key.now)) in
    let none = IsFirstUntilNext-clouded c.args.self.now c.revisions_of-revisions.result.now c.args.key.now c.args.low c.args.high None are (c.in_default.ensures c.args.self.now.spans filed) in
    IfSome-first _ _ _ _ (IsFirstPlace-behind c.args.self.now c.args.key.now c.revisions_of-revisions.result.now c.firsts_of.result.now c.args.low c.args.high _ are firsts (omega arith) none c.first_from.ensures)

pub returns-clause-none : goal.returns-clause-none
returns-clause-none c =
    let fits = c.ranges.high.fits in
    let all = other_of _ c.is_empty.ensures c.if-is_empty.false c.self.invariant.recorded_all in
    let are : AreRevisionsOf c.args.self.now.revisions c.args.key.now c.revisions_of-revisions.result.now =
    rw (← c.self.view_is) (AreRevisionsOf-at (revisions_at c.self.inside.recorded) _ c.args.key.now c.revisions_of-revisions.result.now all
    (ap revisions_in (sym c.get-recorded.ensures.value) ∙ sym c.revisions_of-revisions.ensures.revisions)) in
    let filed = subst (λ (writes : Writes). AreFiled c.self.inside.filed.named c.self.inside.filed.wide writes.spans) c.self.view_is c.self.invariant.filed in
    let firsts : AreFirstClouded c.args.self.now c.args.key.now c.firsts_of.result.now =
    rw (← c.self.view_is) (AreFirstClouded-is _ _ _ _ (ap firsts_in (sym c.get-recorded.ensures.value) ∙ sym c.firsts_of.ensures.firsts)
    (other_of _ c.is_empty.ensures c.if-is_empty.false c.self.invariant.firsts c.args.key.now)) in
    let none = IsFirstUntilNext-clouded c.args.self.now c.revisions_of-revisions.result.now c.args.key.now c.args.low c.args.high None are (c.in_default.ensures c.args.self.now.spans filed) in
    IfNone-first _ _ _ _ (IsFirstPlace-behind c.args.self.now c.args.key.now c.revisions_of-revisions.result.now c.firsts_of.result.now c.args.low c.args.high _ are firsts (omega arith) none c.first_from.ensures)
