use Rattle.std.proofs.Common.{◌≤◌, ◌≤ℤ◌, ◌∙◌, All, subst, sym}
use Rattle.log_moments.proofs.Gathering.{things_in_time}
use Rattle.log_moments.specs.Nexts.{AreNexts}
use Rattle.log_moments.specs.Things.{AreThings}
use Rattle.strict_order.specs.declared.thing.Thing.{Thing}
use Rattle.log_context.specs.Histories.{history_of}
use Rattle.log_moments.proofs.things.things_of.Goals as goal

pub returns : goal.returns
returns c =
    let h = history_of c.args.context.now in
    let nexts = subst (λ l. AreNexts l c.deref.result.now) (c.versions.ensures.versions ∙ c.past.ensures.versions)
    (subst (AreNexts c.versions.result.now) (sym c.deref.ensures.value) c.in_ok-nexts.ensures) in
    let view = c.view_of-view.ensures.view nexts in
    let are = c.in_ok-things.ensures.things h view c.view_of-view.ensures.readable in
    record {
      things = subst (AreThings h) (sym c.from_vec.ensures) are;
      moments = subst (All (λ (t : Thing). t.lo.0 ≤ℤ t.hi.0)) (sym c.from_vec.ensures) (things_in_time h c.in_ok-things.things.items are c.view_of-view.ensures.moments);
      numbers = subst (All (λ (t : Thing). t.least ≤ t.greatest)) (sym c.from_vec.ensures) (c.in_ok-things.ensures.numbers h view);
    }
