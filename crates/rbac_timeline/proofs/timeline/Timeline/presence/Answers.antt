use Rattle.std.proofs.Common.{subst}
use Rattle.rbac_timeline.specs.Known.{Known}
use Rattle.rbac_timeline.specs.Sound.{AreSound}
use Rattle.rbac_timeline.proofs.Holding.{both_iff, certain_by, not_gone_by}
use Rattle.rbac_timeline.proofs.timeline.Timeline.presence.Goals as goal

pub returns-clause-may : goal.returns-clause-may
returns-clause-may c =
    let sound = subst (λ (k : Known). AreSound k.versions k.ends) c.self.view_is c.self.invariant.sound in
    λ v of_key revision. both_iff c.presence.ensures.may (not_gone_by c.args.self.now.ends sound.distinct c.args.key.now c.args.stored.now.revision c.args.place c.removal.result c.removal.ensures v of_key revision)

pub returns-clause-must : goal.returns-clause-must
returns-clause-must c =
    let sound = subst (λ (k : Known). AreSound k.versions k.ends) c.self.view_is c.self.invariant.sound in
    λ v of_key revision. both_iff c.presence.ensures.must (certain_by c.args.self.now.ends sound.distinct c.args.key.now c.args.stored.now.revision c.args.place c.removal.result c.removal.ensures v of_key revision)
