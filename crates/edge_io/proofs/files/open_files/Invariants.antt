use Rattle.std.proofs.Common.{◌≡◌, map}
use Rattle.edge_io.specs.MemoryDesk.{held_of}
use Rattle.edge_io.proofs.files.open_files.Given as goal

abbrev pub invariant-loop-file : goal.invariant-loop-file
invariant-loop-file l = l.opened.items ≡ map held_of l.yielded
