use Rattle.std.proofs.Common.{◌<◌, ◌≤◌, length, All, AllPairs}
use Rattle.audit_event.specs.declared.event.Event.{Event}
use Rattle.audit_event.specs.Events.{IsSound}
use Rattle.worked_logs.proofs.reading.events.Given as goal

-- sound events whose lines are the first ones
abbrev pub invariant-loop-told : goal.invariant-loop-told
invariant-loop-told g l = (length l.events ≤ 100) × All IsSound l.events × All (λ (event : Event). 0 < event.line) l.events
    × AllPairs (λ (a : Event) b. a.line < b.line) l.events × All (λ (event : Event). event.line ≤ length l.events) l.events
