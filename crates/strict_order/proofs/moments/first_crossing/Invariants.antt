use Rattle.std.proofs.Common.{take}
use Rattle.strict_order.specs.Judged.{IsFirstSuch}
use Rattle.strict_order.specs.Things.{Crosses}
use Rattle.strict_order.proofs.moments.first_crossing.Given as goal

-- the first of the things so far that crosses the second
abbrev pub invariant-loop-thing : goal.invariant-loop-thing
invariant-loop-thing l = IsFirstSuch (λ a. Crosses a l.second) (take l.thing-index l.things) l.crossing
