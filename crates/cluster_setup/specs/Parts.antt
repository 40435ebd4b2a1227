-- Parts of what is made, as the code puts them together.
use Rattle.std.specs.Borrow.{Bor}
use Rattle.std.specs.Prelude.{ℕ, pos, Bool, List, [], ◌∷◌, ◌++◌, bytes_eq, fold, map, codes, if◌then◌else◌}
use Rattle.std.specs.List.{flat_map}
use Rattle.base_types.specs.Edits.{put}
use Rattle.base_types.specs.Meaning.{Meaning, flag, whole, items, Fields, no_fields, kids_of}
use Rattle.cluster_setup.specs.declared.shapes.Shape.{Shape}
use Rattle.cluster_setup.specs.Files.{word}
use Rattle.cluster_setup.specs.declared.table.Form.{Form}
use Rattle.cluster_setup.specs.Making.{entries_of, idle_subresource, is_namespaced, is_served, objects_of, same_subresource, say, shape, shapes_of, start_tree, status_shapes_of, subresources_of, with_lag}
use Rattle.cluster_setup.specs.Table.{patch_of}

-- the members with these texts at these names
abbrev pub said : List (Bor (List ℕ) × Bor (List ℕ)) → Fields
said texts = fold (λ fields named. say named.0.now named.1.now fields) no_fields texts

abbrev pub shape_tree : Shape → Meaning
shape_tree given = shape given.path.now given.class.now

abbrev pub shape_list : List Shape → Meaning
shape_list shapes = items (kids_of (map shape_tree shapes))

-- the subresource of a name: that of the status writes it, another one nothing
abbrev pub subresource : Form → List ℕ → Meaning
subresource form name = if bytes_eq name (codes "status") then same_subresource name (status_shapes_of form) else idle_subresource name

-- behind others, where the document has it
abbrev pub with_subresource : Meaning → List ℕ → Form → List Meaning → List ℕ → List Meaning
with_subresource document resource form list name = if is_served document resource name then list ++ (subresource form name ∷ []) else list

-- the subresources of these names that the document has
abbrev pub subresources_among : Meaning → List ℕ → Form → List (Bor (List ℕ)) → List Meaning
subresources_among document resource form names = fold (λ front name. with_subresource document resource form front name.now) [] names

-- how a resource is judged
abbrev pub with_rules : Bool → List ℕ → Meaning → List Meaning → Fields → Fields
with_rules namespaced patch shapes subresources fields =
    put (codes "subresources") (items (kids_of subresources))
    (put (codes "shapes") shapes
    (say (codes "objectPatch") patch
    (put (codes "namespaced") (flag namespaced) fields)))

-- how the resource of an entry is judged
abbrev pub with_rules_of : Meaning → Meaning → Form → Fields → Fields
with_rules_of document entry form fields =
    with_rules (is_namespaced entry) (patch_of form) (shapes_of form) (subresources_of document (word (codes "name") entry) form) fields

-- where a log begins, and whether decisions are judged
abbrev pub with_start : List ℕ → List ℕ → Bool → Fields → Fields
with_start revision time authorize fields =
    with_lag authorize
    (put (codes "authorize") (flag authorize)
    (put (codes "start") (start_tree revision time)
    (put (codes "version") (whole (pos 1)) fields)))

-- what is tracked, as these files tell of it, and what was there
abbrev pub with_lists : List Meaning → List Meaning → List Meaning → Fields → Fields
with_lists told trees shown fields =
    put (codes "snapshot") (items (kids_of (flat_map (objects_of told) shown)))
    (put (codes "resources") (items (kids_of (flat_map (entries_of told) trees))) fields)

-- what is recorded, what is tracked, and what was there
abbrev pub with_content : Meaning → List Meaning → List Meaning → Fields → Fields
with_content policy trees shown fields = with_lists trees trees shown (put (codes "policy") policy fields)
