-- The numbers of an event outside its bodies.
use Rattle.std.specs.Prelude.{ℕ, Bool, true, ◌&&◌, ◌||◌, List, is_some, bytes_eq, codes}
use Rattle.serde_json.specs.Data.{Data, null, boolean, number, string, array, object, Members, no_members, member}
use Rattle.base_types.specs.Values.{of_data}

abbrev pub is_body : List ℕ → Bool
is_body name = bytes_eq name (codes "requestObject") || bytes_eq name (codes "responseObject")

-- whether each number is whole and of 64 bits, so that the value has a tree
abbrev pub has_tree : Data → Bool
has_tree value = is_some (of_data value)

abbrev pub members_have_trees : Members → Bool
members_have_trees no_members = true
members_have_trees (member name value rest) = (is_body name || has_tree value) && members_have_trees rest

abbrev pub has_whole_numbers : Data → Bool
has_whole_numbers null = true
has_whole_numbers (boolean b) = true
has_whole_numbers (number n) = true
has_whole_numbers (string s) = true
has_whole_numbers (array ds) = true
has_whole_numbers (object ms) = members_have_trees ms
