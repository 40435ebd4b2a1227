-- Which resource a list is of.
use Rattle.std.specs.Prelude.{ℕ, ◌++◌, Bool, ◌&&◌, List, Option, None, is_some, bytes_eq, codes, option_map, if◌then◌else◌}
use Rattle.std.specs.List.{list_any, find}
use Rattle.base_types.specs.Meaning.{Meaning}
use Rattle.base_types.specs.Texts.{◌>>=◌}
use Rattle.cluster_setup.specs.Files.{word, listed, group_of, is_whole_name, is_discovery, is_listing}

-- the kind of lists is the kind with `List` behind it
abbrev pub is_list_of : List ℕ → List ℕ → Bool
is_list_of kind list_kind = bytes_eq list_kind (kind ++ codes "List")

-- the entry is that of the resource whose list this is
abbrev pub is_entry_for : Meaning → Meaning → Bool
is_entry_for list entry = is_whole_name (word (codes "name") entry) && is_list_of (word (codes "kind") entry) (word (codes "kind") list)

abbrev pub entry_in : Meaning → Meaning → Option Meaning
entry_in list document = find (is_entry_for list) (listed (codes "resources") document)

abbrev pub has_entry : Meaning → Meaning → Bool
has_entry list document = is_discovery document && is_some (entry_in list document)

-- the document has the list's resource in the list's version
abbrev pub is_source : Meaning → Meaning → Bool
is_source list document = has_entry list document && bytes_eq (word (codes "groupVersion") document) (word (codes "apiVersion") list)

abbrev pub source_of : List Meaning → Meaning → Option Meaning
source_of trees list = find (is_source list) trees

-- the document has the list's resource in some version
abbrev pub is_of_group : Meaning → Meaning → Bool
is_of_group list document =
    has_entry list document && bytes_eq (group_of (word (codes "groupVersion") document)) (group_of (word (codes "apiVersion") list))

abbrev pub is_elsewhere : List Meaning → Meaning → Bool
is_elsewhere trees list = list_any (is_of_group list) trees

-- another list of the same resource
abbrev pub is_same_resource : Meaning → Meaning → Bool
is_same_resource list other =
    is_listing other && bytes_eq (word (codes "kind") other) (word (codes "kind") list)
    && bytes_eq (group_of (word (codes "apiVersion") other)) (group_of (word (codes "apiVersion") list))

abbrev pub is_listed_again : List Meaning → Meaning → Bool
is_listed_again later list = list_any (is_same_resource list) later

-- the document and its entry of the list's resource
abbrev pub found_in : Meaning → Meaning → Option (Meaning × Meaning)
found_in list document = option_map (λ entry. (document, entry)) (entry_in list document)

abbrev pub found_for : List Meaning → Meaning → Option (Meaning × Meaning)
found_for trees list = if is_listing list then source_of trees list >>= found_in list else None
