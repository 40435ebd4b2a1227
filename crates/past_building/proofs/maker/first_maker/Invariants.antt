use Rattle.std.proofs.Common.{◌≡◌, None, find, take}
use Rattle.past_building.specs.Chosen.{finding_at, must_have_made}
use Rattle.past_building.proofs.maker.first_maker.Given as goal

abbrev pub invariant-loop-one : goal.invariant-loop-one
invariant-loop-one g l = find (must_have_made (finding_at (g.B.Bodies.body l.bodies) l.events)) (take l.one-index l.judged) ≡ None
