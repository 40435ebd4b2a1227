use Rattle.std.proofs.Common.{◌≡◌, map}
use Rattle.std.specs.Map.Iter.{deref}
use Rattle.log_context.proofs.keys.listed.Given as goal

-- the keys so far
abbrev pub invariant-loop-key : goal.invariant-loop-key
invariant-loop-key l = l.list.items ≡ map deref l.yielded
