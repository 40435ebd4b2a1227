-- The setup that is made.
use Rattle.std.specs.Prelude.{ℕ, pos, ◌++◌, Bool, true, false, List, [], ◌∷◌, Option, Some, None, map, is_some, bytes_eq, codes, if◌then◌else◌}
use Rattle.std.specs.List.{flat_map, list_any}
use Rattle.base_types.specs.Matching.{combined}
use Rattle.base_types.specs.Edits.{put}
use Rattle.base_types.specs.Meaning.{Meaning, null, flag, whole, words, items, members, no_kids, kid, Fields, no_fields, kids_of}
use Rattle.base_types.specs.Parts.{member_of, flag_of}
use Rattle.base_types.specs.Texts.{◌>>=◌}
use Rattle.cluster_setup.specs.declared.table.Form.{Form}
use Rattle.cluster_setup.specs.declared.table.Form.TheVariants.{Merged, Plain, Bound, Pods, Usual}
use Rattle.cluster_setup.specs.Files.{word, listed, group_of, version_of}
use Rattle.cluster_setup.specs.Found.{found_for}
use Rattle.cluster_setup.specs.Table.{form_of, patch_of}

-- the members with this text at this name
abbrev pub say : List ℕ → List ℕ → Fields → Fields
say name text fields = put name (words text) fields

abbrev pub shape : List ℕ → List ℕ → Meaning
shape path class = members (say (codes "class") class (say (codes "path") path no_fields))

abbrev pub one : Meaning → Meaning
one a = items (kid a no_kids)

abbrev pub two : Meaning → Meaning → Meaning
two a b = items (kid a (kid b no_kids))

abbrev pub three : Meaning → Meaning → Meaning → Meaning
three a b c = items (kid a (kid b (kid c no_kids)))

abbrev pub usual_shapes : Meaning
usual_shapes = two (shape (codes "/spec") (codes "Defaulted")) (shape (codes "/status") (codes "Kept"))

abbrev pub shapes_of : Form → Meaning
shapes_of Merged = items no_kids
shapes_of Plain = items no_kids
shapes_of Bound = two (shape (codes "/subjects") (codes "Defaulted")) (shape (codes "/roleRef") (codes "Defaulted"))
shapes_of Pods = usual_shapes
shapes_of Usual = usual_shapes

abbrev pub asked : List ℕ → Meaning
asked path = shape path (codes "Asked")

abbrev pub status_shapes_of : Form → Meaning
status_shapes_of Merged = one (asked (codes "/status"))
status_shapes_of Plain = one (asked (codes "/status"))
status_shapes_of Bound = one (asked (codes "/status"))
status_shapes_of Pods = three (asked (codes "/status")) (asked (codes "/metadata/labels")) (asked (codes "/metadata/annotations"))
status_shapes_of Usual = one (asked (codes "/status"))

-- the subresource that writes its object's status, and one that writes nothing
abbrev pub same_subresource : List ℕ → Meaning → Meaning
same_subresource name shapes = members (put (codes "shapes") shapes (say (codes "effect") (codes "same") (say (codes "name") name no_fields)))

abbrev pub idle_subresource : List ℕ → Meaning
idle_subresource name = members (say (codes "effect") (codes "none") (say (codes "name") name no_fields))

abbrev pub is_named : List ℕ → List ℕ → Meaning → Bool
is_named resource name entry = bytes_eq (word (codes "name") entry) (combined resource name)

-- the document has the subresource of this name
abbrev pub is_served : Meaning → List ℕ → List ℕ → Bool
is_served document resource name = list_any (is_named resource name) (listed (codes "resources") document)

-- the subresource behind others, where the document has it
abbrev pub with_status : Meaning → List ℕ → Form → List Meaning → List Meaning
with_status document resource form list =
    if is_served document resource (codes "status") then list ++ (same_subresource (codes "status") (status_shapes_of form) ∷ []) else list

abbrev pub with_idle : Meaning → List ℕ → List ℕ → List Meaning → List Meaning
with_idle document resource name list = if is_served document resource name then list ++ (idle_subresource name ∷ []) else list

-- those whose effect is known; a write of another one hides its object
abbrev pub subresources_of : Meaning → List ℕ → Form → List Meaning
subresources_of document resource form =
    with_idle document resource (codes "token")
    (with_idle document resource (codes "proxy")
    (with_idle document resource (codes "portforward")
    (with_idle document resource (codes "attach")
    (with_idle document resource (codes "exec")
    (with_idle document resource (codes "log")
    (with_status document resource form []))))))

abbrev pub is_true : Option Bool → Bool
is_true None = false
is_true (Some given) = given

abbrev pub is_namespaced : Meaning → Bool
is_namespaced entry = is_true (member_of (codes "namespaced") entry >>= flag_of)

-- the entry of a resource, whose lists have this kind
abbrev pub entry_with : List ℕ → List ℕ → List ℕ → List ℕ → Bool → List ℕ → Meaning → List Meaning → List ℕ → Meaning
entry_with group version resource kind namespaced patch shapes subresources list_kind = members
    (put (codes "subresources") (items (kids_of subresources))
    (put (codes "shapes") shapes
    (say (codes "objectPatch") patch
    (put (codes "namespaced") (flag namespaced)
    (say (codes "listKind") list_kind
    (say (codes "kind") kind
    (say (codes "resource") resource
    (say (codes "version") version
    (say (codes "group") group no_fields)))))))))

abbrev pub entry_of : Meaning → Meaning → List ℕ → Form → Meaning
entry_of document entry list_kind form =
    entry_with (group_of (word (codes "groupVersion") document)) (version_of (word (codes "groupVersion") document)) (word (codes "name") entry)
    (word (codes "kind") entry) (is_namespaced entry) (patch_of form) (shapes_of form) (subresources_of document (word (codes "name") entry) form) list_kind

abbrev pub form_for : Meaning → Meaning → Form
form_for document entry = form_of (group_of (word (codes "groupVersion") document)) (word (codes "name") entry)

abbrev pub entries_from : Meaning → Option (Meaning × Meaning) → List Meaning
entries_from list None = []
entries_from list (Some found) = entry_of found.0 found.1 (word (codes "kind") list) (form_for found.0 found.1) ∷ []

-- the entry of a file that is a list
abbrev pub entries_of : List Meaning → Meaning → List Meaning
entries_of trees list = entries_from list (found_for trees list)

abbrev pub put_in : List ℕ → List ℕ → Meaning → Meaning
put_in name text null = null
put_in name text (flag b) = flag b
put_in name text (whole z) = whole z
put_in name text (words s) = words s
put_in name text (items ts) = items ts
put_in name text (members ms) = members (say name text ms)

-- the object with this text at this name, where it has nothing there
abbrev pub filled : List ℕ → List ℕ → Meaning → Meaning
filled name text tree = if is_some (member_of name tree) then tree else put_in name text tree

-- the item of a list, with the kind and the version that the list leaves out
abbrev pub whole_item : List ℕ → List ℕ → Meaning → Meaning
whole_item kind version item = filled (codes "apiVersion") version (filled (codes "kind") kind item)

abbrev pub object_entry : List ℕ → List ℕ → List ℕ → List ℕ → Meaning → Meaning
object_entry group resource kind version item = members
    (put (codes "object") (whole_item kind version item)
    (say (codes "resource") resource
    (say (codes "group") group no_fields)))

abbrev pub objects_from : Meaning → Option (Meaning × Meaning) → List Meaning
objects_from list None = []
objects_from list (Some found) =
    map (object_entry (group_of (word (codes "groupVersion") found.0)) (word (codes "name") found.1) (word (codes "kind") found.1) (word (codes "groupVersion") found.0))
    (listed (codes "items") list)

-- the objects of a file that is a list
abbrev pub objects_of : List Meaning → Meaning → List Meaning
objects_of trees list = objects_from list (found_for trees list)

abbrev pub start_tree : List ℕ → List ℕ → Meaning
start_tree revision time = members (say (codes "time") time (say (codes "revision") revision no_fields))

-- by how many nanoseconds an authorizer's caches may be behind, where decisions are judged: a second
abbrev pub lag_of : Bool → ℕ
lag_of true = 1000000000
lag_of false = 0

-- a setup says nothing of a lag that is none
abbrev pub with_lag : Bool → Fields → Fields
with_lag true fields = put (codes "lagNanos") (whole (pos (lag_of true))) fields
with_lag false fields = fields

abbrev pub setup_with : List ℕ → List ℕ → Meaning → List Meaning → List Meaning → Bool → Meaning
setup_with revision time policy resources objects authorize = members
    (put (codes "snapshot") (items (kids_of objects))
    (put (codes "resources") (items (kids_of resources))
    (put (codes "policy") policy
    (with_lag authorize
    (put (codes "authorize") (flag authorize)
    (put (codes "start") (start_tree revision time)
    (put (codes "version") (whole (pos 1))
    (say (codes "kind") (codes "PastSetup") no_fields))))))))

-- the setup of all files' resources, with the objects of some of them
abbrev pub setup_tree : List ℕ → List ℕ → Meaning → List Meaning → List Meaning → Bool → Meaning
setup_tree revision time policy trees shown authorize =
    setup_with revision time policy (flat_map (entries_of trees) trees) (flat_map (objects_of trees) shown) authorize
