use Rattle.std.proofs.Common.{◌≡◌, take}
use Rattle.std.specs.List.{filter_map}
use Rattle.write_groups.specs.Hiding.{hiding_at}
use Rattle.write_groups.proofs.hidden.hidings_of.Given as goal

abbrev pub invariant-loop-event : goal.invariant-loop-event
invariant-loop-event l = l.hidings.items ≡ filter_map hiding_at (take l.event-index l.events)
