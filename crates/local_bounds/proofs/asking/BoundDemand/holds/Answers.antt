use Rattle.local_bounds.proofs.asking.BoundDemand.holds.Goals as goal

pub returns-in-Under : goal.returns-in-Under
returns-in-Under c =
    let all = rw c.as_slice.ensures at c.meets_all.ensures in
    rw c.in-Under.is all
