use Rattle.std.proofs.Common.{◌≡◌, ◌<◌, length, All, AllPairs}
use Rattle.write_groups.specs.declared.event.LogEvent.{LogEvent}
use Rattle.worked_histories.proofs.parts.log.Given as goal

-- lines rise up to this one
abbrev pub invariant-loop-line : goal.invariant-loop-line
invariant-loop-line g l = (length l.events.items ≡ l.line) × AllPairs (λ (a : LogEvent) b. a.line < b.line) l.events.items × All (λ (event : LogEvent). event.line < l.line) l.events.items
