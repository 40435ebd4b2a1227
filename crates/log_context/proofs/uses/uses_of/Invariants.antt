use Rattle.std.proofs.Common.{take}
use Rattle.log_context.specs.Uses.{AreUses}
use Rattle.log_context.proofs.uses.uses_of.Given as goal

abbrev pub invariant-loop-version : goal.invariant-loop-version
invariant-loop-version l = AreUses (take l.version-index l.versions) l.uses
