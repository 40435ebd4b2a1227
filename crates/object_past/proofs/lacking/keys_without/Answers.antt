use Rattle.std.proofs.Common.{Bor, ◌+◌, sym, ap, subst, ◌∙◌}
use Rattle.std.proofs.lemmas.List.{map-append}
use Rattle.base_types.specs.declared.kubernetes.key.ObjectKey.{ObjectKey}
use Rattle.object_past.proofs.Walking.{IsWalked, walked_by, walked_exact, walked_order, walked_over}
use Rattle.object_past.specs.Among.{keys_at}
use Rattle.object_past.proofs.lacking.keys_without.Goals as goal
use Rattle.object_past.proofs.lacking.keys_without.Goals.{then-not-stands_at+in_ok-push, else-not-stands_at}

pub loop-key-preserved : goal.loop-key-preserved
loop-key-preserved c = elim c.if-not-stands_at.branch [
  | then-not-stands_at+in_ok-push w ↦ walked_by c.args.keys.now (keys_at c.args.shown.now) c.loop-key.key-index c.loop-key.place c.place_of-place.result (keys_at c.loop-key.others.items) c.key-item.result
      c.requires.keys c.loop-key-test.true c.key-item.is c.loop-key.invariant c.place_of-place.ensures (keys_at c.if-not-stands_at.others.items) (sym c.stands_at.ensures ∙ w.if-not-stands_at.true)
      (ap (λ v. keys_at v.items) w.others-is ∙ ap keys_at w.in_ok-push.ensures.items ∙ map-append (λ (key : Bor ObjectKey). key.now) c.loop-key.others.items _)
  | else-not-stands_at w ↦ subst (λ v. IsWalked c.args.keys.now (keys_at c.args.shown.now) (c.loop-key.key-index + 1) c.place_of-place.result (keys_at v.items)) (sym w.others-is)
      (walked_over c.args.keys.now (keys_at c.args.shown.now) c.loop-key.key-index c.loop-key.place c.place_of-place.result (keys_at c.loop-key.others.items) c.key-item.result
      c.requires.keys c.loop-key-test.true c.key-item.is c.loop-key.invariant c.place_of-place.ensures (sym c.stands_at.ensures ∙ w.if-not-stands_at.false))
]

pub returns-clause-order : goal.returns-clause-order
returns-clause-order c = walked_order c.args.keys.now (keys_at c.args.shown.now) c.loop-key.key-index c.loop-key.place (keys_at c.loop-key.others.items) c.loop-key.invariant c.loop-key-test.false c.requires.keys

pub returns-clause-exact : goal.returns-clause-exact
returns-clause-exact c = walked_exact c.args.keys.now (keys_at c.args.shown.now) c.loop-key.key-index c.loop-key.place (keys_at c.loop-key.others.items) c.loop-key.invariant c.loop-key-test.false
