use Rattle.std.proofs.Common.{◌≡◌, ◌++◌, take, string_bytes}
use Rattle.std.specs.List.{flat_map}
use Rattle.finding_picture.specs.Times.{write_bar}
use Rattle.finding_picture.proofs.times.push_bars.Given as goal

abbrev pub invariant-loop-write : goal.invariant-loop-write
invariant-loop-write l = string_bytes l.text ≡ string_bytes l.initial.text ++ flat_map (write_bar l.context.events l.axis) (take l.write-index l.write-items)
