use Rattle.std.proofs.Common.{◌≡◌, ◌++◌, take, string_bytes}
use Rattle.std.specs.List.{flat_map}
use Rattle.finding_picture.specs.Requests.{group_text}
use Rattle.finding_picture.proofs.request.push_groups.Given as goal

abbrev pub invariant-loop-group : goal.invariant-loop-group
invariant-loop-group l = string_bytes l.text ≡ string_bytes l.initial.text ++ flat_map group_text (take l.group-index l.groups)
