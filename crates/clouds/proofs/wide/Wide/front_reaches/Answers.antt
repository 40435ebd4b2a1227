use Rattle.clouds.proofs.wide.Wide.front_reaches.Goals as goal

pub returns : goal.returns
returns c = rw (← c.front_of_name-front.ensures, ← c.spans_of_front.ensures) c.reach.ensures
