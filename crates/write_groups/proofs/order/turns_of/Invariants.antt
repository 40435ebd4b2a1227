use Rattle.std.proofs.Common.{◌≡◌, ◌++◌, drop}
use Rattle.write_groups.specs.Ordered.{turns_of}
use Rattle.write_groups.proofs.order.turns_of.Given as goal

abbrev pub invariant-loop-i : goal.invariant-loop-i
invariant-loop-i l = l.turns.items ++ turns_of l.i (drop l.i l.events) ≡ turns_of 0 l.events
