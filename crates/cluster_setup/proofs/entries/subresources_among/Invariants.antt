use Rattle.std.proofs.Common.{◌≡◌, take}
use Rattle.cluster_setup.specs.Parts.{subresources_among}
use Rattle.cluster_setup.proofs.entries.subresources_among.Given as goal

abbrev pub invariant-loop-name : goal.invariant-loop-name
invariant-loop-name l = l.list.items ≡ subresources_among l.document l.resource l.form (take l.name-index l.names)
