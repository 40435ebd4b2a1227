use Rattle.std.proofs.Common.{◌≡◌, filter, map, take}
use Rattle.std.specs.List.{zip}
use Rattle.log_picture.specs.Lanes.{has_mark, pair_of}
use Rattle.log_picture.proofs.lanes.marked_of.Given as goal

-- those so far
abbrev pub invariant-loop-number : goal.invariant-loop-number
invariant-loop-number l = map pair_of l.marked.items ≡ filter has_mark (zip (take l.number l.events) (take l.number l.log))
