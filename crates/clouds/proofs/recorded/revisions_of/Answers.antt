use Rattle.clouds.proofs.recorded.revisions_of.Goals as goal

pub returns-in-Some-clause-revisions : goal.returns-in-Some-clause-revisions
returns-in-Some-clause-revisions c = rw c.in-Some.is c.as_slice.ensures.places
