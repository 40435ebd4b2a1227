use Rattle.std.proofs.Common.{◌-◌}
use Rattle.json_patch.specs.Gaps.{IsNarrowed}
use Rattle.json_patch.proofs.members.begun.Given as goal

abbrev pub invariant-loop-rest : goal.invariant-loop-rest
invariant-loop-rest l = IsNarrowed l.name l.parts l.rest

abbrev pub decreases-loop-rest : goal.decreases-loop-rest
decreases-loop-rest l = l.rest.high - l.rest.low
