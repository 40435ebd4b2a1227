use Rattle.std.proofs.Common.{take}
use Rattle.rbac_timeline.specs.Nameless.{AreLows}
use Rattle.rbac_timeline.proofs.nameless.Nameless.of.Given as goal

-- of the spans so far
abbrev pub invariant-loop-span : goal.invariant-loop-span
invariant-loop-span l = AreLows l.nameless (take l.span-index l.spans)
