use Rattle.std.proofs.Common.{◌≡◌, drop}
use Rattle.std.specs.List.{list_all}
use Rattle.path_shape.specs.Reading.{is_known}
use Rattle.path_shape.proofs.reading.are_known.Given as goal

abbrev pub invariant-loop-member : goal.invariant-loop-member
invariant-loop-member l = list_all is_known l.member-items ≡ list_all is_known (drop l.member-index l.member-items)
