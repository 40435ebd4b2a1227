use Rattle.std.proofs.Common.{◌≡◌, take}
use Rattle.log_context.specs.Roles.{roles_at}
use Rattle.log_context.proofs.roles.roles_at.Given as goal

abbrev pub invariant-loop-turn : goal.invariant-loop-turn
invariant-loop-turn l = l.roles ≡ roles_at l.pool.trees l.versions (take l.turn-index l.turns)
