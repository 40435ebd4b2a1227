use Rattle.std.proofs.Common.{refl, sym}
use Rattle.std.proofs.lemmas.Bool.{both_ways, false≢true}
use Rattle.rbac_timeline.specs.Kept.{MayGrantByListed}
use Rattle.rbac_timeline.proofs.Tests.{none_all, none_more}
use Rattle.rbac_timeline.proofs.timeline.Timeline.some_may.Goals as goal

pub returns-then-key_extent : goal.returns-then-key_extent
returns-then-key_extent c = (
  (λ yes. (c.loop-key.key-index, c.key-item.result, c.loop-key-test.true, sym c.key-item.is, c.key_extent.ensures.may.0 c.if-key_extent.true)),
  (λ any. refl),
)

pub loop-key-preserved : goal.loop-key-preserved
loop-key-preserved c =
    none_more (MayGrantByListed c.args.self.now c.args.link.way c.args.link.role_place c.args.link.binding_place c.args.who.now c.args.attrs.now) c.args.keys.now _ c.key-item.result
    c.loop-key-test.true c.key-item.is c.loop-key.invariant (λ may. both_ways _ c.if-key_extent.false (c.key_extent.ensures.may.1 may))

pub returns : goal.returns
returns c = (
  (λ no. absurd (false≢true no)),
  (λ any. absurd (none_all (MayGrantByListed c.args.self.now c.args.link.way c.args.link.role_place c.args.link.binding_place c.args.who.now c.args.attrs.now) c.args.keys.now _
      c.loop-key-test.false c.loop-key.invariant any)),
)
