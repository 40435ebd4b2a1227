use Rattle.std.proofs.Common.{subst, ◌∙◌}
use Rattle.base_types.proofs.Prefixes.{take-whole}
use Rattle.cluster_setup.specs.Documents.{AreNames}
use Rattle.cluster_setup.proofs.DocumentFacts.{entry_named}
use Rattle.cluster_setup.proofs.documents.Document.new.Goals as goal

pub loop-entry-preserved : goal.loop-entry-preserved
loop-entry-preserved c =
    entry_named c.loop-entry.names c.add_name.new.names c.listed-told.result.now c.loop-entry.entry-index c.entry-item.result
    c.loop-entry-test.true c.entry-item.is c.loop-entry.invariant c.in_ok-add_name.ensures

pub invariant_of-result : goal.invariant_of-result
invariant_of-result c =
    subst (AreNames c.loop-entry.names) (take-whole c.loop-entry.entry-index c.listed-told.result.now c.loop-entry-test.false ∙ c.listed-told.ensures)
    c.loop-entry.invariant
