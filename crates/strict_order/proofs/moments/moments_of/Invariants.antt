use Rattle.std.proofs.Common.{take, Any}
use Rattle.std.specs.List.{AllZip}
use Rattle.strict_order.specs.Judged.{IsFirstSuch}
use Rattle.strict_order.specs.Printed.{IsPrinted}
use Rattle.strict_order.specs.Things.{Crosses}
use Rattle.strict_order.proofs.moments.moments_of.Given as goal

-- the moments of the things so far, and the first of them that some thing crosses
abbrev pub invariant-loop-thing : goal.invariant-loop-thing
invariant-loop-thing l =
    AllZip (IsPrinted l.things) (take l.thing-index l.things) l.moments.items × IsFirstSuch (λ b. Any (λ a. Crosses a b) l.things) (take l.thing-index l.things) l.late
