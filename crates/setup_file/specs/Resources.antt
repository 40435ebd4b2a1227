-- The resources that are judged.
use Rattle.std.specs.Prelude.{ℕ, Bool, true, false, ◌&&◌, List, [], ◌∷◌, Option, Some, None, map, option_map, is_some, bytes_eq, codes, if◌then◌else◌}
use Rattle.std.specs.Result.{result_ok}
use Rattle.std.specs.List.{find}
use Rattle.base_types.specs.Meaning.{Meaning}
use Rattle.base_types.specs.Parts.{member_of, text_of, flag_of, items_of}
use Rattle.base_types.specs.Texts.{◌>>=◌, text_at, filled_at}
use Rattle.path_shape.specs.declared.shape.FieldClass.{FieldClass}
use Rattle.path_shape.specs.declared.shape.FieldClass.TheVariants.{Asked, Kept}
use Rattle.path_shape.specs.declared.shape.Shape.{Shape}
use Rattle.path_shape.specs.Reading.{shape_entries}
use Rattle.setup_file.specs.declared.resources.Entry.{Entry}
use Rattle.setup_file.specs.declared.setup.Tracked.{Tracked}
use Rattle.setup_file.specs.declared.setup.Subresource.{Subresource}
use Rattle.setup_file.specs.Distinct.{are_distinct, pair_eq}
use Rattle.setup_file.specs.Forms.{is_form}

abbrev pub entry_members : List (List ℕ)
entry_members =
    codes "group" ∷ codes "version" ∷ codes "resource" ∷ codes "kind" ∷ codes "listKind" ∷ codes "namespaced"
    ∷ codes "objectPatch" ∷ codes "shapes" ∷ codes "subresources" ∷ []

-- whether a patch that is an object is a merge patch: `merge`, or `recorded`, which needn't be said
abbrev pub merges_as : List ℕ → Option Bool
merges_as name = if bytes_eq name (codes "merge") then Some true else (if bytes_eq name (codes "recorded") then Some false else None)

abbrev pub merges_of : Option Meaning → Option Bool
merges_of None = Some false
merges_of (Some tree) = text_of tree >>= merges_as

-- an entry, its shapes and subresources aside
abbrev pub entry_of : Meaning → Option Entry
entry_of tree = if is_form entry_members tree then (do
  group ← text_at (codes "group") tree
  version ← filled_at (codes "version") tree
  resource ← filled_at (codes "resource") tree
  kind ← filled_at (codes "kind") tree
  list_kind ← filled_at (codes "listKind") tree
  value ← member_of (codes "namespaced") tree
  namespaced ← flag_of value
  merges ← merges_of (member_of (codes "objectPatch") tree)
  Some (record { group = group; version = version; resource = resource; kind = kind; list_kind = list_kind; namespaced = namespaced; merges = merges }))
    else None

abbrev pub entries_in : List Meaning → Option (List Entry)
entries_in [] = Some []
entries_in (tree ∷ trees) = do
  entry ← entry_of tree
  entries ← entries_in trees
  Some (entry ∷ entries)

-- no two entries have one group and resource, or one group and kind
abbrev pub are_apart : List Entry → Bool
are_apart entries =
    are_distinct pair_eq (map (λ entry. (entry.group, entry.resource)) entries)
    && are_distinct pair_eq (map (λ entry. (entry.group, entry.kind)) entries)

abbrev pub shape_or_root : FieldClass → Option Meaning → Option Shape
shape_or_root root None = Some (record { root = root; entries = [] })
shape_or_root root (Some list) = option_map (λ entries. record { root = root; entries = entries }) (result_ok (shape_entries list))

-- the shape of the member `shapes`, where it is in its form; only the root's class where there is none
abbrev pub shape_at : FieldClass → Meaning → Option Shape
shape_at root tree = shape_or_root root (member_of (codes "shapes") tree)

abbrev pub has_shape : Meaning → Bool
has_shape tree = is_some (shape_at Asked tree)

-- whether the requests of a subresource read and write its object
abbrev pub effect_as : List ℕ → Option Bool
effect_as name = if bytes_eq name (codes "same") then Some true else (if bytes_eq name (codes "none") then Some false else None)

abbrev pub subresource_of : Meaning → Option Subresource
subresource_of tree = if is_form (codes "name" ∷ codes "effect" ∷ codes "shapes" ∷ []) tree then (do
  name ← text_at (codes "name") tree
  effect ← text_at (codes "effect") tree
  same ← effect_as effect
  shape ← shape_at Kept tree
  Some (record { name = name; same = same; shape = shape }))
    else None

abbrev pub subresources_in : List Meaning → Option (List Subresource)
subresources_in [] = Some []
subresources_in (tree ∷ trees) = do
  subresource ← subresource_of tree
  subresources ← subresources_in trees
  Some (subresource ∷ subresources)

-- no two of them have one name
abbrev pub are_named_apart : List Subresource → Bool
are_named_apart subresources = are_distinct bytes_eq (map (λ subresource. subresource.name) subresources)

abbrev pub subresources_or_none : Option Meaning → Option (List Subresource)
subresources_or_none None = Some []
subresources_or_none (Some list) = do
  trees ← items_of list
  subresources ← subresources_in trees
  if are_named_apart subresources then Some subresources else None

abbrev pub tracked_of : Meaning → Option Tracked
tracked_of tree = do
  entry ← entry_of tree
  shape ← shape_at Asked tree
  subresources ← subresources_or_none (member_of (codes "subresources") tree)
  Some (record {
    group = entry.group;
    version = entry.version;
    resource = entry.resource;
    kind = entry.kind;
    list_kind = entry.list_kind;
    namespaced = entry.namespaced;
    merges = entry.merges;
    shape = shape;
    subresources = subresources;
  })

abbrev pub tracked_in : List Meaning → Option (List Tracked)
tracked_in [] = Some []
tracked_in (tree ∷ trees) = do
  tracked ← tracked_of tree
  others ← tracked_in trees
  Some (tracked ∷ others)

abbrev pub is_resource : List ℕ → List ℕ → Tracked → Bool
is_resource group resource tracked = bytes_eq tracked.group group && bytes_eq tracked.resource resource

-- the tracked resource of this group and resource type
abbrev pub tracked_as : List Tracked → List ℕ → List ℕ → Option Tracked
tracked_as resources group resource = find (is_resource group resource) resources
