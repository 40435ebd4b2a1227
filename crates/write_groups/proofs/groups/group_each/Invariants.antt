use Rattle.std.proofs.Common.{◌≡◌, ◌++◌}
use Rattle.std.specs.BTreeMap.{values}
use Rattle.std.specs.List.{filter_map}
use Rattle.write_groups.specs.Grouped.{group_in}
use Rattle.write_groups.proofs.groups.group_each.Given as goal

abbrev pub invariant-loop-numbers : goal.invariant-loop-numbers
invariant-loop-numbers l = l.groups ++ filter_map (group_in l.events) l.numbers-iterator ≡ filter_map (group_in l.events) (values l.made)
