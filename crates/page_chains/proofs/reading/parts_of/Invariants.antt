use Rattle.std.proofs.Common.{◌≡◌, ◌≤◌, ◌++◌, drop, length}
use Rattle.std.specs.List.{filter_map}
use Rattle.page_chains.specs.Parts.{part_of}
use Rattle.page_chains.proofs.reading.parts_of.Given as goal

abbrev pub invariant-loop-event : goal.invariant-loop-event
invariant-loop-event l = record {
  read : filter_map (part_of l.setup) l.events ≡ l.parts ++ filter_map (part_of l.setup) (drop l.event-index l.events);
  few : length l.parts ≤ l.event-index;
}
