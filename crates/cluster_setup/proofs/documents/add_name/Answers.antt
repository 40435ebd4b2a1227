use Rattle.std.proofs.Common.{codes, ◌∙◌}
use Rattle.cluster_setup.specs.Files.{word}
use Rattle.cluster_setup.proofs.DocumentFacts.{name_added}
use Rattle.cluster_setup.proofs.documents.add_name.Goals as goal

pub returns : goal.returns
returns c =
    name_added c.args.names.now c.insert.new.self (word (codes "name") c.args.entry.now) c.in_ok-from_str.field-0
    (c.in_ok-from_str.ensures ∙ c.word.ensures) c.in_ok-_added.ensures.updates
