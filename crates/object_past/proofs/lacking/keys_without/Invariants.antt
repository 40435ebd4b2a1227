use Rattle.object_past.specs.Among.{keys_at}
use Rattle.object_past.proofs.Walking.{IsWalked}
use Rattle.object_past.proofs.lacking.keys_without.Given as goal

abbrev pub invariant-loop-key : goal.invariant-loop-key
invariant-loop-key l = IsWalked l.keys (keys_at l.shown) l.key-index l.place (keys_at l.others.items)
