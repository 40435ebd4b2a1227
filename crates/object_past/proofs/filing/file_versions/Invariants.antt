use Rattle.std.proofs.Common.{List, take}
use Rattle.object_past.specs.Endings.{AreEndings}
use Rattle.object_past.specs.Indexed.{AreFound}
use Rattle.object_past.specs.Past.{AreEnds}
use Rattle.object_past.specs.declared.removal.Removal.{Removal}
use Rattle.object_past.proofs.filing.file_versions.Given as goal

-- the versions so far are found
abbrev pub invariant-loop-i : goal.invariant-loop-i
invariant-loop-i l = (removals : List Removal) → AreEndings removals l.endings → AreEnds l.versions removals → AreFound (take l.i l.versions) removals l.by_key
