use Rattle.std.proofs.Common.{map, string_bytes, drop, Global}
use Rattle.cluster_setup.proofs.GatheringFacts.{IsUnderWay}
use Rattle.cluster_setup.proofs.gathering.read_files.Given as goal

abbrev pub invariant-loop-name : goal.invariant-loop-name
invariant-loop-name g l =
    IsUnderWay (map (string_bytes {Z = Global}) l.names) (map (string_bytes {Z = Global}) (drop l.name-index l.names)) l.initial.given.items l.given.items
    (g.D.Desk.left l.initial.desk) (g.D.Desk.left l.desk) (g.D.Desk.faults l.initial.desk) (g.D.Desk.faults l.desk)
