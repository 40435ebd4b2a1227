use Rattle.std.proofs.Common.{map, refl, subst, sym, ◌∙◌}
use Rattle.std.specs.List.{Contains}
use Rattle.std.proofs.lemmas.List.{take_all}
use Rattle.clouds.specs.Recorded.{firsts_at}
use Rattle.clouds.proofs.Firsts.{AreFirstClouded-all, FirstsSoFar, FirstsSoFar-more, FirstsSoFar-start}
use Rattle.clouds.proofs.Keeping.{AreRevisionsOf-at, among_mapped, taken_more}
use Rattle.clouds.proofs.recorded.add_each_first.Goals as goal

pub loop-write-init : goal.loop-write-init
loop-write-init c = ((λ key. refl), λ spans filed. FirstsSoFar-start _ _ c.requires.firsts)

pub add_first-requires : goal.add_first-requires
add_first-requires c =
    let written = among_mapped (λ write. write.now) c.args.writes.now _ c.write-item.result c.loop-write-test.true c.write-item.is in
    subst (λ l. Contains l c.write-item.result.now.revision) (sym (c.loop-write.invariant.0 c.write-item.result.now.key)) (c.requires.revisions.found c.write-item.result.now written)

pub loop-write-preserved : goal.loop-write-preserved
loop-write-preserved c = (
  λ key. c.in_ok-add_first.ensures.revisions key ∙ c.loop-write.invariant.0 key,
  λ spans filed.
      let are = AreRevisionsOf-at _ _ c.write-item.result.now.key _ c.requires.revisions (sym (c.loop-write.invariant.0 c.write-item.result.now.key)) in
      subst (λ l. FirstsSoFar (record { spans = spans; revisions = map (λ write. write.now) c.args.writes.now }) l (firsts_at c.add_first.new.recorded))
      (sym (taken_more (λ write. write.now) c.args.writes.now _ c.write-item.result c.loop-write-test.true c.write-item.is))
      (FirstsSoFar-more _ _ _ _ _ c.write-item.result.now are (c.in_ok-add_first.ensures.firsts spans filed) (c.loop-write.invariant.1 spans filed)),
)

pub returns-clause-revisions : goal.returns-clause-revisions
returns-clause-revisions c = c.loop-write.invariant.0

pub returns-clause-firsts : goal.returns-clause-firsts
returns-clause-firsts c = λ spans filed key.
    AreFirstClouded-all _ _ key
    (subst (λ l. FirstsSoFar (record { spans = spans; revisions = map (λ write. write.now) c.args.writes.now }) (map (λ write. write.now) l) (firsts_at c.loop-write.recorded))
    (take_all c.loop-write.write-index c.args.writes.now c.loop-write-test.false) (c.loop-write.invariant.1 spans filed))
