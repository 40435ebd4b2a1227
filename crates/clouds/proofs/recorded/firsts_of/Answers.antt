use Rattle.clouds.proofs.recorded.firsts_of.Goals as goal

pub returns-in-Some-clause-firsts : goal.returns-in-Some-clause-firsts
returns-in-Some-clause-firsts c = rw c.in-Some.is c.as_slice.ensures.places
