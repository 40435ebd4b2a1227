-- What the files are that a setup is made of (Kubernetes API concepts: "Resource URIs", "Collections"; `APIResourceList`).
use Rattle.std.specs.Prelude.{ℕ, ◌==◌, Bool, true, false, not, ◌&&◌, ◌||◌, List, [], ◌∷◌, Option, Some, None, is_some, bytes_eq, codes, option_map, if◌then◌else◌}
use Rattle.std.specs.List.{before_first, after_first, find}
use Rattle.base_types.specs.Meaning.{Meaning}
use Rattle.base_types.specs.Parts.{member_of}
use Rattle.base_types.specs.Texts.{◌>>=◌, text_at, items_or_none, revision_at}

abbrev pub or_empty : Option (List ℕ) → List ℕ
or_empty None = []
or_empty (Some text) = text

-- the text of a member; the empty one where there is no such text
abbrev pub word : List ℕ → Meaning → List ℕ
word name tree = or_empty (text_at name tree)

abbrev pub or_no_items : Option (List Meaning) → List Meaning
or_no_items None = []
or_no_items (Some trees) = trees

-- the items of a member that is a list; none where there is no such list
abbrev pub listed : List ℕ → Meaning → List Meaning
listed name tree = or_no_items (items_or_none (member_of name tree))

abbrev pub is_empty : List ℕ → Bool
is_empty [] = true
is_empty (byte ∷ bytes) = false

abbrev pub is_slash : ℕ → Bool
is_slash byte = byte == 47

-- the group of `GROUP/VERSION`; the core group's is left out with its slash
abbrev pub group_of : List ℕ → List ℕ
group_of text = if is_empty (after_first is_slash text) then [] else before_first is_slash text

abbrev pub version_of : List ℕ → List ℕ
version_of text = if is_empty (after_first is_slash text) then before_first is_slash text else after_first is_slash text

-- RESOURCE, as opposed to RESOURCE/SUBRESOURCE
abbrev pub is_whole_name : List ℕ → Bool
is_whole_name name = is_empty (after_first is_slash name)

-- the resources that the API server has of a group's version
abbrev pub is_discovery : Meaning → Bool
is_discovery tree = bytes_eq (word (codes "kind") tree) (codes "APIResourceList")

-- a list, or null, as what has no items may be written
abbrev pub has_items : Meaning → Bool
has_items tree = is_some (member_of (codes "items") tree) && is_some (items_or_none (member_of (codes "items") tree))

-- a list of objects
abbrev pub is_listing : Meaning → Bool
is_listing tree = not (is_discovery tree) && is_some (member_of (codes "metadata") tree) && has_items tree

-- the text of a member of its `metadata`
abbrev pub metadata_word : List ℕ → Meaning → List ℕ
metadata_word name tree = or_empty (member_of (codes "metadata") tree >>= text_at name)

abbrev pub has_remaining : Meaning → Bool
has_remaining tree = is_some (member_of (codes "metadata") tree >>= member_of (codes "remainingItemCount"))

-- more pages follow
abbrev pub has_more : Meaning → Bool
has_more tree = not (is_empty (metadata_word (codes "continue") tree)) || has_remaining tree

-- the revision at which the list was read
abbrev pub list_revision : Meaning → Option ℕ
list_revision tree = member_of (codes "metadata") tree >>= revision_at (codes "resourceVersion")

-- the text of the first list's revision
abbrev pub start_word : List Meaning → Option (List ℕ)
start_word trees = option_map (metadata_word (codes "resourceVersion")) (find is_listing trees)
