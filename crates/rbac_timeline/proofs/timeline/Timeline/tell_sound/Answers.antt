use Rattle.std.proofs.Common.{subst}
use Rattle.rbac_timeline.specs.Known.{Known}
use Rattle.rbac_timeline.specs.Sound.{AreSound}
use Rattle.rbac_timeline.proofs.timeline.Timeline.tell_sound.Goals as goal

pub returns : goal.returns
returns c = subst (λ (k : Known). AreSound k.versions k.ends) c.self.view_is c.self.invariant.sound
