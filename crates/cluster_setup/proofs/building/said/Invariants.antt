use Rattle.std.proofs.Common.{◌≡◌, take}
use Rattle.base_types.specs.Meaning.{fields_of}
use Rattle.cluster_setup.specs.Parts.{said}
use Rattle.cluster_setup.proofs.building.said.Given as goal

abbrev pub invariant-loop-name : goal.invariant-loop-name
invariant-loop-name l = fields_of l.fields ≡ said (take l.name-index l.texts)
