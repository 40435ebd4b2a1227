use Rattle.std.proofs.Common.{subst}
use Rattle.std.proofs.lemmas.Bool.{both_ways}
use Rattle.rbac_timeline.specs.Known.{Known}
use Rattle.rbac_timeline.specs.Sound.{AreSound}
use Rattle.rbac_timeline.proofs.Answering.{AreFirstOf-forbidden}
use Rattle.rbac_timeline.proofs.Judging.{not_forbid_bypassed}
use Rattle.rbac_timeline.proofs.timeline.Timeline.find_forbidden.Goals as goal

pub returns-then-is_bypassed : goal.returns-then-is_bypassed
returns-then-is_bypassed c =
    let known = c.args.self.now in
    let sound = subst (λ (k : Known). AreSound k.versions k.ends) c.self.view_is c.self.invariant.sound in
    λ places within possible. not_forbid_bypassed known sound places c.args.who.now c.args.attrs.now (c.is_bypassed.ensures.0 c.if-is_bypassed.true) possible

pub returns : goal.returns
returns c =
    let known = c.args.self.now in
    let sound = subst (λ (k : Known). AreSound k.versions k.ends) c.self.view_is c.self.invariant.sound in
    AreFirstOf-forbidden known sound c.args.who.now c.args.attrs.now (λ bypassed. both_ways _ c.if-is_bypassed.false (c.is_bypassed.ensures.1 bypassed)) c.args.low c.args.high c.first_forbidden.result
    c.first_forbidden.ensures
