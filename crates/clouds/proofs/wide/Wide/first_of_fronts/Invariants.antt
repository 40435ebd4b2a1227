use Rattle.std.proofs.Common.{take}
use Rattle.std.specs.List.{Any}
use Rattle.clouds.specs.FirstPlace.{IsFirstPlace}
use Rattle.clouds.specs.Hiding.{ReachesKey}
use Rattle.clouds.specs.Wide.{spans_by}
use Rattle.clouds.proofs.wide.Wide.first_of_fronts.Given as goal

-- the first place of the counts so far
abbrev pub invariant-loop-count : goal.invariant-loop-count
invariant-loop-count l = IsFirstPlace (λ place. Any (λ count. Any (ReachesKey l.fn.key place l.revision) (spans_by l.fn.self l.fn.scope l.fn.key count)) (take l.count-index l.counts)) l.low l.high l.first
