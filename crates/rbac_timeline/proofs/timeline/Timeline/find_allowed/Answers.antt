use Rattle.std.proofs.Common.{subst}
use Rattle.std.proofs.lemmas.Bool.{both_ways}
use Rattle.base_types.specs.declared.verdict.placed.Places.{Places}
use Rattle.base_types.specs.declared.kubernetes.request.Decision.TheVariants.{Allow}
use Rattle.rbac_timeline.specs.Decisions.{IsPossible}
use Rattle.rbac_timeline.specs.Known.{Known}
use Rattle.rbac_timeline.specs.Searched.{all_at}
use Rattle.rbac_timeline.specs.Sound.{AreSound}
use Rattle.rbac_timeline.proofs.Answering.{AreFirstOf-allowed, AreFirstOf-lowest}
use Rattle.rbac_timeline.proofs.Judging.{allow_bypassed}
use Rattle.rbac_timeline.proofs.timeline.Timeline.find_allowed.Goals as goal

pub returns-then-is_bypassed : goal.returns-then-is_bypassed
returns-then-is_bypassed c =
    let known = c.args.self.now in
    let sound = subst (λ (k : Known). AreSound k.versions k.ends) c.self.view_is c.self.invariant.sound in
    rw c.lowest.ensures (AreFirstOf-lowest (λ (p : Places). IsPossible known p c.args.who.now c.args.attrs.now Allow) c.args.low c.args.high c.requires
    (allow_bypassed known sound (all_at c.args.low) c.args.who.now c.args.attrs.now (c.is_bypassed.ensures.0 c.if-is_bypassed.true)))

pub returns : goal.returns
returns c =
    let known = c.args.self.now in
    let sound = subst (λ (k : Known). AreSound k.versions k.ends) c.self.view_is c.self.invariant.sound in
    AreFirstOf-allowed known sound c.args.who.now c.args.attrs.now (λ bypassed. both_ways _ c.if-is_bypassed.false (c.is_bypassed.ensures.1 bypassed)) c.args.low c.args.high c.first_allowed.result c.first_allowed.ensures
