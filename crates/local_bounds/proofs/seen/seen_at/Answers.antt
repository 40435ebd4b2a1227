use Rattle.std.proofs.Common.{◌↔◌, Some, ◌∙◌, subst}
use Rattle.std.specs.Prelude.{IsTrue}
use Rattle.std.proofs.lemmas.Option.{same_Some}
use Rattle.object_past.specs.Modelled.{version_of}
use Rattle.object_past.specs.declared.version.Version.{Version}
use Rattle.local_bounds.specs.Sights.{IsSeen}
use Rattle.local_bounds.proofs.Asks.{asked_at}
use Rattle.local_bounds.proofs.seen.seen_at.Goals as goal

pub returns-in-Some : goal.returns-in-Some
returns-in-Some c = λ h p. rw c.ask.ensures
    (asked_at h c.args.key.now c.args.place (λ o. IsSeen c.args.sight o) c.standing_at-standing.result c.takes_none.result c.takes.result (c.standing_at-standing.ensures h p) c.takes_none.ensures
    (λ v e. subst (λ (z : Version). IsTrue c.takes.result ↔ IsSeen c.args.sight (Some (version_of z))) (same_Some c.in-Some.version.now v (c.in-Some.ensures ∙ e)) c.takes.ensures))

pub returns-in-None : goal.returns-in-None
returns-in-None c = λ h p. rw c.ask-in-None.ensures
    (asked_at h c.args.key.now c.args.place (λ o. IsSeen c.args.sight o) c.standing_at-standing.result c.takes_none-in-None.result _ (c.standing_at-standing.ensures h p) c.takes_none-in-None.ensures
    (λ v e. absurd (cc (c.in-None.ensures, e))))
