use Rattle.std.proofs.Common.{◌-◌, sym, ◌∙◌, subst, true≢false}
use Rattle.std.specs.Prelude.{option_map}
use Rattle.std.proofs.lemmas.Result.{IfOk-weaker}
use Rattle.clouds.specs.Clouds as cloud
use Rattle.history_model.specs.Making.{IsLeastFault}
use Rattle.past_building.proofs.Faulting.{clouded_used, clouded_none}
use Rattle.past_building.proofs.Telling.{clear_is_least, lent_is}
use Rattle.object_past.specs.Modelled.{version_of}
use Rattle.past_building.specs.Modelled.{making_of}
use Rattle.past_building.proofs.making.making_fault.Goals as goal
use Rattle.past_building.proofs.making.making_fault.Goals.{else-making-via-then-making+else-is_used, else-making-via-else-making}

pub returns-then-is_used : goal.returns-then-is_used
returns-then-is_used g c = λ h times judged used.
    clouded_used h (making_of c.args.making) _ (λ out. true≢false (sym ((c.is_out_of_reach.ensures h times).1 out) ∙ c.if-is_out_of_reach.false))
    (λ clear. clear ((judged.clouds.clouded c.args.making.item.now.key (c.args.making.item.now.revision - 1)).0
    (subst (λ n. cloud.IsClouded c.args.clouds.now c.args.making.item.now.key (n - 1)) c.get.ensures.value (c.clouded.ensures.0 c.if-clouded.true))))
    c.if-making.true ((used c.if-making.true).0 c.if-is_used.true)

pub returns-then-clouded : goal.returns-then-clouded
returns-then-clouded g c = λ h times judged used.
    clouded_none h (making_of c.args.making) _ (λ out. true≢false (sym ((c.is_out_of_reach.ensures h times).1 out) ∙ c.if-is_out_of_reach.false))
    (λ clear. clear ((judged.clouds.clouded c.args.making.item.now.key (c.args.making.item.now.revision - 1)).0
    (subst (λ n. cloud.IsClouded c.args.clouds.now c.args.making.item.now.key (n - 1)) c.get.ensures.value (c.clouded.ensures.0 c.if-clouded.true))))
    (λ made had. elim c.else-making.branch [
      | else-making-via-then-making+else-is_used w ↦ true≢false (sym ((used made).1 had) ∙ w.if-is_used.false)
      | else-making-via-else-making w ↦ true≢false (sym made ∙ w.if-making.false)
    ])

pub returns : goal.returns
returns g c = IfOk-weaker c.clear_fault.result _ _ (λ found is h times judged used.
    subst (λ before. IsLeastFault h (making_of c.args.making) before found) (sym (lent_is c.args.before))
    (subst (IsLeastFault h (making_of c.args.making) (option_map version_of (option_map (λ v. v.now) c.args.before))) (sym is)
    (clear_is_least h (g.B.Bodies.body c.args.bodies.now) c.args.making.number c.args.making.event.now c.args.making.item.now c.args.making.created c.args.is_used (option_map (λ v. v.now) c.args.before)
    judged.bodies
    (λ out. true≢false (sym ((c.is_out_of_reach.ensures h times).1 out) ∙ c.if-is_out_of_reach.false))
    (λ clouded. true≢false (sym (c.clouded.ensures.1 (subst (λ n. cloud.IsClouded c.args.clouds.now c.args.making.item.now.key (n - 1)) (sym c.get.ensures.value)
    ((judged.clouds.clouded c.args.making.item.now.key (c.args.making.item.now.revision - 1)).1 clouded))) ∙ c.if-clouded.false))
    used)))
    c.clear_fault.ensures
