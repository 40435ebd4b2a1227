use Rattle.clouds.proofs.unrecorded.first_reached.Goals as goal

pub returns-in-Some : goal.returns-in-Some
returns-in-Some c = rw c.in-Some.is c.first_reached.ensures
