use Rattle.std.proofs.Common.{◌+◌, ◌<◌, ◌≤◌, ◌≤ℤ◌, All, AllPairs}
use Rattle.strict_order.specs.declared.thing.Thing.{Thing}
use Rattle.worked_base.proofs.moment_rows.things_of.Given as goal

-- lines rise up to the next one, and bounds are in order
abbrev pub invariant-loop-line : goal.invariant-loop-line
invariant-loop-line l =
    AllPairs (λ (a : Thing) b. a.line < b.line) l.things.items × All (λ (thing : Thing). thing.line < l.line + 1) l.things.items
    × All (λ (thing : Thing). thing.lo.0 ≤ℤ thing.hi.0) l.things.items × All (λ (thing : Thing). thing.least ≤ thing.greatest) l.things.items
