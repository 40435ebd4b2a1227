use Rattle.std.proofs.Common.{List, drop}
use Rattle.base_types.specs.Meaning.{Meaning}
use Rattle.cluster_setup.specs.Indexed.{AreEntries, AreSources}
use Rattle.cluster_setup.proofs.sources.add_document.Given as goal

-- the entries from this one on are there
abbrev pub invariant-loop-at : goal.invariant-loop-at
invariant-loop-at l = (behind : List Meaning) → AreSources l.initial.entries behind → AreEntries l.entries l.document (drop l.at l.told) behind
