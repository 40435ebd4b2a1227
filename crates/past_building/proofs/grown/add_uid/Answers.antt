use Rattle.std.proofs.Common.{bytes_eq, true, subst}
use Rattle.std.specs.HashSet as set
use Rattle.past_building.proofs.Keeping.{uid_added}
use Rattle.past_building.proofs.grown.add_uid.Goals as goal

pub returns : goal.returns
returns c = uid_added c.args.uids.now c.insert.new.self c.args.uid.now
    (subst (λ u. set.Updates bytes_eq c.args.uids.now c.insert.new.self u true) c.in_ok-clone.ensures.cases c.in_ok-_added.ensures.updates)
