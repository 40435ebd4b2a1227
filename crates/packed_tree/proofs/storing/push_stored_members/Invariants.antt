use Rattle.std.proofs.Common.{◌≡◌, ◌++◌, length}
use Rattle.base_types.specs.Meaning.{fields_of}
use Rattle.packed_tree.specs.Encoding.{encode_fields}
use Rattle.packed_tree.specs.StoredBytes.{stored_fields}
use Rattle.packed_tree.proofs.storing.push_stored_members.Given as goal

-- all that is put in the end is what was put, and then what is still to be put
abbrev pub invariant-members : goal.invariant-members
invariant-members l =
    l.initial.out.items ++ encode_fields (stored_fields (fields_of l.initial.rest)) ≡ l.out.items ++ encode_fields (stored_fields (fields_of l.rest))

abbrev pub decreases-members : goal.decreases-members
decreases-members l = length l.rest
