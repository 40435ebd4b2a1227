use Rattle.std.proofs.Common.{subst}
use Rattle.rbac_timeline.specs.Indexed.{IsIndexed, mentions_of}
use Rattle.rbac_timeline.specs.Known.{Known}
use Rattle.rbac_timeline.proofs.Naming.{AreBindingsOf-keys}
use Rattle.rbac_timeline.proofs.timeline.Timeline.bindings_of.Goals as goal

pub returns : goal.returns
returns c =
    let indexed = subst (λ (k : Known). IsIndexed c.self.inside.index (mentions_of k.versions)) c.self.view_is c.self.invariant.indexed in
    AreBindingsOf-keys c.self.inside.index c.args.self.now.versions indexed c.args.subject.now _ c.by_subject.ensures.keys c.by_subject.ensures.rising
