use Rattle.std.proofs.Common.{map, take}
use Rattle.clouds.specs.Filed.{AreFiled}
use Rattle.clouds.proofs.filing.file_each.Given as goal

-- the spans so far are filed
abbrev pub invariant-loop-span : goal.invariant-loop-span
invariant-loop-span l = AreFiled l.filed.named l.filed.wide (map (λ span. span.now) (take l.span-index l.spans))
