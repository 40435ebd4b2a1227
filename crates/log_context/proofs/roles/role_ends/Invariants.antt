use Rattle.std.proofs.Common.{◌≡◌, ◌++◌, drop}
use Rattle.log_context.specs.Roles.{role_ends}
use Rattle.log_context.proofs.roles.role_ends.Given as goal

abbrev pub invariant-loop-removal : goal.invariant-loop-removal
invariant-loop-removal l = l.ends ++ role_ends (drop l.removal-index l.removals) ≡ role_ends l.removals
