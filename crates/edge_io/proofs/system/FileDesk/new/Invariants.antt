use Rattle.std.proofs.Common.{take}
use Rattle.edge_io.specs.Sources.{HoldsNames}
use Rattle.edge_io.proofs.system.FileDesk.new.Given as goal

-- the names so far
abbrev pub invariant-loop-name : goal.invariant-loop-name
invariant-loop-name g l = HoldsNames (take l.name-index l.names) l.sources
