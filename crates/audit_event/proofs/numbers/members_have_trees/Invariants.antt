use Rattle.std.proofs.Common.{◌≡◌}
use Rattle.borrowed_json.specs.View.{members_view}
use Rattle.audit_event.specs.Numbers.{members_have_trees}
use Rattle.audit_event.proofs.numbers.members_have_trees.Given as goal

abbrev pub invariant-loop-name : goal.invariant-loop-name
invariant-loop-name l = members_have_trees (members_view l.map.entries) ≡ members_have_trees (members_view l.name-iterator)
