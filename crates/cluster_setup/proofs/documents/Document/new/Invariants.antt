use Rattle.std.proofs.Common.{take}
use Rattle.cluster_setup.specs.Documents.{AreNames}
use Rattle.cluster_setup.proofs.documents.Document.new.Given as goal

abbrev pub invariant-loop-entry : goal.invariant-loop-entry
invariant-loop-entry l = AreNames l.names (take l.entry-index l.told)
