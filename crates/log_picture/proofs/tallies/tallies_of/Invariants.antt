use Rattle.std.proofs.Common.{take}
use Rattle.log_picture.specs.Tallied.{AreTallied}
use Rattle.log_picture.proofs.tallies.tallies_of.Given as goal

-- the versions so far are counted
abbrev pub invariant-loop-version : goal.invariant-loop-version
invariant-loop-version l = AreTallied (take l.version-index l.versions) l.tallies
