use Rattle.audit_event.proofs.KeepingLemmas.{kept_after}
use Rattle.audit_event.proofs.seen.Seen.keep.Goals as goal

pub invariant_of-self : goal.invariant_of-self
invariant_of-self c = (kept_after c.self.inside.kept.items c.args.event c.keep.result c.keep.new.kept.items c.self.invariant.0 (rw (← c.self.view_is) at c.requires.later) (rw (← c.self.view_is) at c.requires.room) c.keep.ensures.keeps, c.keep.ensures.identities)
