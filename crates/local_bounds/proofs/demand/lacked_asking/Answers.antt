use Rattle.std.proofs.Common.{◌↔◌, not, Some, true, inl, ◌∙◌, subst}
use Rattle.std.specs.Prelude.{IsTrue}
use Rattle.std.proofs.lemmas.Bool.{both_ways}
use Rattle.std.proofs.lemmas.Option.{same_Some}
use Rattle.history_model.specs.Bounding.{Lacks}
use Rattle.object_past.specs.Modelled.{version_of}
use Rattle.object_past.specs.declared.version.Version.{Version}
use Rattle.local_bounds.specs.Demands.{IsMet}
use Rattle.local_bounds.proofs.Asks.{asked_at}
use Rattle.local_bounds.proofs.Demands.{lacks_none, lacks_version}
use Rattle.local_bounds.proofs.demand.lacked_asking.Goals as goal

pub returns-then-clouded : goal.returns-then-clouded
returns-then-clouded g c = λ h k s choice chosen. inl ((k.clouds c.args.key.now c.args.place).0 (c.clouded.ensures.0 c.if-clouded.true))

pub returns-in_default : goal.returns-in_default
returns-in_default g c = λ h k s. rw c.ask.ensures
    (asked_at h c.args.key.now c.args.place (λ o. IsMet h c.args.number c.args.place (Lacks c.args.key.now) o) c.standing_at-standing.result true _ (c.standing_at-standing.ensures h k.of_past)
    (lacks_none h c.args.number c.args.place c.args.key.now)
    (λ v e. absurd (cc (c.in_default.ensures, e))))

pub returns : goal.returns
returns g c = λ h k s. rw c.ask-2.ensures
    (asked_at h c.args.key.now c.args.place (λ o. IsMet h c.args.number c.args.place (Lacks c.args.key.now) o) c.standing_at-standing.result true _ (c.standing_at-standing.ensures h k.of_past)
    (lacks_none h c.args.number c.args.place c.args.key.now)
    (λ v e. subst (λ (z : Version). IsTrue (not c.in_ok-listable.listable) ↔ IsMet h c.args.number c.args.place (Lacks c.args.key.now) (Some (version_of z))) (same_Some c.in-Some.version.now v (c.in-Some.ensures ∙ e))
    (lacks_version h c.args.number c.args.place c.args.key.now (version_of c.in-Some.version.now) c.in_ok-listable.listable
    (λ d. both_ways _ c.if-clouded.false (c.clouded.ensures.1 ((k.clouds c.args.key.now c.args.place).1 d)))
    (c.in_ok-listable.ensures ∙ s c.args.number c.in-Some.version.now.node.0))))
