use Rattle.std.proofs.Common.{ap}
use Rattle.base_types.specs.Meaning.{items, members}
use Rattle.packed_tree.specs.Decoding.{kids_in, fields_in}
use Rattle.packed_tree.proofs.Steps.{kids_of-kids_list, fields_of-fields_list}
use Rattle.packed_tree.proofs.reading.tagged_level.Goals as goal

pub returns-in-6 : goal.returns-in-6
returns-in-6 c = rw c.in-6.is (ap items (kids_of-kids_list (kids_in c.args.rest.now)))

pub returns-in-7 : goal.returns-in-7
returns-in-7 c = rw c.in-7.is (ap members (fields_of-fields_list (fields_in c.args.rest.now)))
