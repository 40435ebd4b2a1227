use Rattle.std.proofs.Common.{◌≡◌, map}
use Rattle.log_picture.specs.Tallied.{changed_as}
use Rattle.log_picture.proofs.changed.listed.Given as goal

-- the entries so far
abbrev pub invariant-loop-key : goal.invariant-loop-key
invariant-loop-key l = l.changes.items ≡ map changed_as l.yielded
