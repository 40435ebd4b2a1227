use Rattle.std.proofs.Common.{◌≡◌, ◌++◌, drop}
use Rattle.log_context.specs.Roles.{turns_from}
use Rattle.log_context.proofs.roles.turns_of.Given as goal

abbrev pub invariant-loop-i : goal.invariant-loop-i
invariant-loop-i l = l.turns.items ++ turns_from l.i (drop l.i l.versions) ≡ turns_from 0 l.versions
