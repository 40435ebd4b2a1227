use Rattle.object_past.specs.Among.{keys_at, AreBelow}
use Rattle.object_past.proofs.lacking.place_of.Given as goal

abbrev pub invariant-loop-place : goal.invariant-loop-place
invariant-loop-place l = AreBelow (keys_at l.keys) l.key l.place
