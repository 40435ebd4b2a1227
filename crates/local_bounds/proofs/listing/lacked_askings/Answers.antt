use Rattle.std.proofs.Common.{Bor}
use Rattle.base_types.specs.declared.kubernetes.key.ObjectKey.{ObjectKey}
use Rattle.history_model.specs.Bounding.{Lacks}
use Rattle.local_bounds.proofs.Askings.{asked_more, asked_all}
use Rattle.local_bounds.proofs.listing.lacked_askings.Goals as goal

pub loop-key-preserved : goal.loop-key-preserved
loop-key-preserved g c = λ h k s. asked_more h c.args.number c.args.place (λ (key : Bor ObjectKey). Lacks key.now) c.args.keys.now c.loop-key.key-index c.key-item.result c.loop-key.askings.items c.push.new.self.items c.in_ok-asking.asking
    c.loop-key-test.true c.key-item.is c.in_ok-push.ensures.items (c.loop-key.invariant h k s) (c.in_ok-asking.ensures h k s)

pub returns : goal.returns
returns g c = λ h k s. asked_all h c.args.number c.args.place (λ (key : Bor ObjectKey). Lacks key.now) c.args.keys.now c.loop-key.key-index c.loop-key.askings.items c.loop-key-test.false (c.loop-key.invariant h k s)
