use Rattle.std.proofs.Common.{sym, ◌∙◌}
use Rattle.object_past.proofs.Walking.{stands_here, stands_nowhere}
use Rattle.object_past.proofs.lacking.stands_at.Goals as goal

pub returns-in-Some : goal.returns-in-Some
returns-in-Some c =
    let lookup = rw c.in-Some.is at c.get.ensures.lookup in
    c.same_key.ensures ∙ stands_here c.args.keys.now c.args.key.now c.args.place c.requires.order c.requires.place c.in-Some.other.now lookup.3.0 lookup.1

pub returns-in-None : goal.returns-in-None
returns-in-None c =
    let lookup = rw c.in-None.is at c.get.ensures.lookup in
    sym (stands_nowhere c.args.keys.now c.args.key.now c.args.place c.requires.order c.requires.place lookup.3)
