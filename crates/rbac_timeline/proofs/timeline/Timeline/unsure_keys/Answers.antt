use Rattle.std.proofs.Common.{subst}
use Rattle.rbac_timeline.specs.Known.{Known, writes_of}
use Rattle.rbac_timeline.specs.Unsure.{AreUnsure}
use Rattle.rbac_timeline.proofs.Clouding.{found_unsure, known_from_unsure}
use Rattle.rbac_timeline.proofs.timeline.Timeline.unsure_keys.Goals as goal

pub returns-clause-known : goal.returns-clause-known
returns-clause-known c = λ key among.
    let known = c.args.self.now in
    let are = subst (λ (k : Known). AreUnsure (writes_of k) k.versions k.spans c.self.inside.unsure) c.self.view_is c.self.invariant.unsure_ones in
    known_from_unsure known c.self.inside.unsure are c.args.way c.args.attrs.now key (rw (c.keys.ensures, c.bindings.ensures) at among)

pub returns-clause-full : goal.returns-clause-full
returns-clause-full c = λ place key bound kind reached is.
    let known = c.args.self.now in
    let are = subst (λ (k : Known). AreUnsure (writes_of k) k.versions k.spans c.self.inside.unsure) c.self.view_is c.self.invariant.unsure_ones in
    rw (c.keys.ensures, c.bindings.ensures) (found_unsure known c.self.inside.unsure are c.args.way c.args.attrs.now place key bound kind reached is)
