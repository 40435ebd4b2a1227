-- The numbers of a setup that is made are those of its policy and of its objects: each can be read.
use Rattle.std.proofs.Common.{◌≡◌, ℕ, pos, ◌++◌, Bool, true, false, List, [], ◌∷◌, Option, Some, None, inl, refl, sym, subst, arith, codes, Ordering, Less, Equal, Greater}
use Rattle.std.specs.Prelude.{map, is_some}
use Rattle.std.specs.List.{All, flat_map}
use Rattle.std.specs.Ordering.{nat_cmp, match_ordering}
use Rattle.std.specs.Cmp.Lexicographic.{slice_cmp}
use Rattle.std.proofs.lemmas.Bool.{cond_both}
use Rattle.std.proofs.lemmas.List.Concat.{flat_map-cons}
use Rattle.std.proofs.lemmas.List.Elements.{All-nil, All-head, All-tail}
use Rattle.base_types.specs.Edits.{put}
use Rattle.base_types.specs.Meaning.{Meaning, null, flag, whole, words, items, members, Fields, no_fields, field, kids_of}
use Rattle.base_types.specs.Parts.{member_of, is_null, items_of}
use Rattle.base_types.specs.Texts.{items_or_none}
use Rattle.base_types.specs.Values.{IsInteger, InRange, KidsInRange, FieldsInRange}
use Rattle.setup_file.proofs.InRange.{member_in_range, items_in_range}
use Rattle.cluster_setup.specs.declared.table.Form.{Form}
use Rattle.cluster_setup.specs.declared.table.Form.TheVariants.{Merged, Plain, Bound, Pods, Usual}
use Rattle.cluster_setup.specs.Files.{word, or_no_items, listed, group_of, version_of}
use Rattle.cluster_setup.specs.Found.{found_for}
use Rattle.cluster_setup.specs.Table.{patch_of}
use Rattle.cluster_setup.specs.Making.{say, shape, asked, shapes_of, status_shapes_of, same_subresource, idle_subresource, is_served, with_status, with_idle, subresources_of, is_namespaced, entry_with, entry_of, form_for, entries_from, entries_of, put_in, filled, whole_item, object_entry, objects_from, objects_of, start_tree, lag_of, with_lag, setup_with, setup_tree}

-- members with one put in
chosen : (o : Ordering) (a b c : Fields) → FieldsInRange a → FieldsInRange b → FieldsInRange c → FieldsInRange (match_ordering o a b c)
chosen Less a b c p q r = p
chosen Equal a b c p q r = q
chosen Greater a b c p q r = r

put_in_range : (name : List ℕ) (t : Meaning) (fields : Fields) → InRange t → FieldsInRange fields → FieldsInRange (put name t fields)
put_in_range name t no_fields here others = (here, tt)
put_in_range name t (field k u rest) here others =
    chosen (slice_cmp nat_cmp name k) (field name t (field k u rest)) (field name t rest) (field k u (put name t rest))
    (here, others) (here, others.1) (others.0, put_in_range name t rest here others.1)

say_in_range : (name text : List ℕ) (fields : Fields) → FieldsInRange fields → FieldsInRange (say name text fields)
say_in_range name text fields others = put_in_range name (words text) fields tt others

shape_in_range : (path class : List ℕ) → InRange (shape path class)
shape_in_range path class = say_in_range (codes "class") class (say (codes "path") path no_fields) (say_in_range (codes "path") path no_fields tt)

shapes_in_range : (form : Form) → InRange (shapes_of form)
shapes_in_range Merged = tt
shapes_in_range Plain = tt
shapes_in_range Bound = (shape_in_range (codes "/subjects") (codes "Defaulted"), (shape_in_range (codes "/roleRef") (codes "Defaulted"), tt))
shapes_in_range Pods = (shape_in_range (codes "/spec") (codes "Defaulted"), (shape_in_range (codes "/status") (codes "Kept"), tt))
shapes_in_range Usual = (shape_in_range (codes "/spec") (codes "Defaulted"), (shape_in_range (codes "/status") (codes "Kept"), tt))

asked_in_range : (path : List ℕ) → InRange (asked path)
asked_in_range path = shape_in_range path (codes "Asked")

status_shapes_in_range : (form : Form) → InRange (status_shapes_of form)
status_shapes_in_range Merged = (asked_in_range (codes "/status"), tt)
status_shapes_in_range Plain = (asked_in_range (codes "/status"), tt)
status_shapes_in_range Bound = (asked_in_range (codes "/status"), tt)
status_shapes_in_range Pods = (asked_in_range (codes "/status"), (asked_in_range (codes "/metadata/labels"), (asked_in_range (codes "/metadata/annotations"), tt)))
status_shapes_in_range Usual = (asked_in_range (codes "/status"), tt)

-- lists behind one another
kids_append : (xs ys : List Meaning) → KidsInRange (kids_of xs) → KidsInRange (kids_of ys) → KidsInRange (kids_of (xs ++ ys))
kids_append [] ys front behind = behind
kids_append (x ∷ xs) ys front behind = (front.0, kids_append xs ys front.1 behind)

kids_flat : (f : Meaning → List Meaning) (P : Meaning → Type 0) → ((x : Meaning) → P x → KidsInRange (kids_of (f x))) → (xs : List Meaning) → All P xs → KidsInRange (kids_of (flat_map f xs))
kids_flat f P each [] all = tt
kids_flat f P each (x ∷ xs) all =
    subst (λ l. KidsInRange (kids_of l)) (sym (flat_map-cons f x xs))
    (kids_append (f x) (flat_map f xs) (each x (All-head P x xs all)) (kids_flat f P each xs (All-tail P x xs all)))

kids_map : (f : Meaning → Meaning) → ((x : Meaning) → InRange x → InRange (f x)) → (xs : List Meaning) → All InRange xs → KidsInRange (kids_of (map f xs))
kids_map f each [] all = tt
kids_map f each (x ∷ xs) all = (each x (All-head InRange x xs all), kids_map f each xs (All-tail InRange x xs all))

same_in_range : (name : List ℕ) (shapes : Meaning) → InRange shapes → InRange (same_subresource name shapes)
same_in_range name shapes range =
    let named = say (codes "name") name no_fields in
    put_in_range (codes "shapes") shapes (say (codes "effect") (codes "same") named) range
    (say_in_range (codes "effect") (codes "same") named (say_in_range (codes "name") name no_fields tt))

idle_in_range : (name : List ℕ) → InRange (idle_subresource name)
idle_in_range name = say_in_range (codes "effect") (codes "none") (say (codes "name") name no_fields) (say_in_range (codes "name") name no_fields tt)

with_idle_in_range : (document : Meaning) (resource name : List ℕ) (list : List Meaning) → KidsInRange (kids_of list) → KidsInRange (kids_of (with_idle document resource name list))
with_idle_in_range document resource name list range =
    cond_both (is_served document resource name) (list ++ (idle_subresource name ∷ [])) list (λ l. KidsInRange (kids_of l))
    (λ served. kids_append list (idle_subresource name ∷ []) range (idle_in_range name, tt)) (λ missing. range)

with_status_in_range : (document : Meaning) (resource : List ℕ) (form : Form) → KidsInRange (kids_of (with_status document resource form []))
with_status_in_range document resource form =
    cond_both (is_served document resource (codes "status")) (same_subresource (codes "status") (status_shapes_of form) ∷ []) [] (λ l. KidsInRange (kids_of l))
    (λ served. (same_in_range (codes "status") (status_shapes_of form) (status_shapes_in_range form), tt)) (λ missing. tt)

subresources_in_range : (document : Meaning) (resource : List ℕ) (form : Form) → KidsInRange (kids_of (subresources_of document resource form))
subresources_in_range document resource form =
    let l1 = with_status document resource form [] in
    let l2 = with_idle document resource (codes "log") l1 in
    let l3 = with_idle document resource (codes "exec") l2 in
    let l4 = with_idle document resource (codes "attach") l3 in
    let l5 = with_idle document resource (codes "portforward") l4 in
    let l6 = with_idle document resource (codes "proxy") l5 in
    let r1 = with_status_in_range document resource form in
    let r2 = with_idle_in_range document resource (codes "log") l1 r1 in
    let r3 = with_idle_in_range document resource (codes "exec") l2 r2 in
    let r4 = with_idle_in_range document resource (codes "attach") l3 r3 in
    let r5 = with_idle_in_range document resource (codes "portforward") l4 r4 in
    let r6 = with_idle_in_range document resource (codes "proxy") l5 r5 in
    with_idle_in_range document resource (codes "token") l6 r6

entry_with_in_range : (group version resource kind : List ℕ) (namespaced : Bool) (patch : List ℕ) (shapes : Meaning) (subresources : List Meaning) (list_kind : List ℕ)
    → InRange shapes → KidsInRange (kids_of subresources) → InRange (entry_with group version resource kind namespaced patch shapes subresources list_kind)
entry_with_in_range group version resource kind namespaced patch shapes subresources list_kind shaped known =
    let f1 = say (codes "group") group no_fields in
    let f2 = say (codes "version") version f1 in
    let f3 = say (codes "resource") resource f2 in
    let f4 = say (codes "kind") kind f3 in
    let f5 = say (codes "listKind") list_kind f4 in
    let f6 = put (codes "namespaced") (flag namespaced) f5 in
    let f7 = say (codes "objectPatch") patch f6 in
    let f8 = put (codes "shapes") shapes f7 in
    let r1 = say_in_range (codes "group") group no_fields tt in
    let r2 = say_in_range (codes "version") version f1 r1 in
    let r3 = say_in_range (codes "resource") resource f2 r2 in
    let r4 = say_in_range (codes "kind") kind f3 r3 in
    let r5 = say_in_range (codes "listKind") list_kind f4 r4 in
    let r6 = put_in_range (codes "namespaced") (flag namespaced) f5 tt r5 in
    let r7 = say_in_range (codes "objectPatch") patch f6 r6 in
    let r8 = put_in_range (codes "shapes") shapes f7 shaped r7 in
    put_in_range (codes "subresources") (items (kids_of subresources)) f8 known r8

entry_in_range : (document entry : Meaning) (list_kind : List ℕ) (form : Form) → InRange (entry_of document entry list_kind form)
entry_in_range document entry list_kind form =
    entry_with_in_range (group_of (word (codes "groupVersion") document)) (version_of (word (codes "groupVersion") document)) (word (codes "name") entry)
    (word (codes "kind") entry) (is_namespaced entry) (patch_of form) (shapes_of form) (subresources_of document (word (codes "name") entry) form) list_kind
    (shapes_in_range form) (subresources_in_range document (word (codes "name") entry) form)

entries_in_range : (list : Meaning) (found : Option (Meaning × Meaning)) → KidsInRange (kids_of (entries_from list found))
entries_in_range list None = tt
entries_in_range list (Some found) = (entry_in_range found.0 found.1 (word (codes "kind") list) (form_for found.0 found.1), tt)

-- the items of a member
items_or_none_in_range : (name : List ℕ) (tree : Meaning) (found : Option Meaning) → InRange tree → member_of name tree ≡ found → All InRange (or_no_items (items_or_none found))
items_or_none_in_range name tree None range is = All-nil InRange
items_or_none_in_range name tree (Some value) range is =
    let inside = member_in_range name tree value range is in
    cond_both (is_null value) (Some []) (items_of value) (λ found. All InRange (or_no_items found))
    (λ no_items. All-nil InRange) (λ some_items. of_items value (items_of value) inside refl)
  where
    of_items : (value : Meaning) (found : Option (List Meaning)) → InRange value → items_of value ≡ found → All InRange (or_no_items found)
    of_items value None inside e = All-nil InRange
    of_items value (Some trees) inside e = items_in_range value trees inside e

listed_in_range : (name : List ℕ) (tree : Meaning) → InRange tree → All InRange (listed name tree)
listed_in_range name tree range = items_or_none_in_range name tree (member_of name tree) range refl

-- items with their kind and version
put_into_range : (name text : List ℕ) (tree : Meaning) → InRange tree → InRange (put_in name text tree)
put_into_range name text null range = range
put_into_range name text (flag b) range = range
put_into_range name text (whole z) range = range
put_into_range name text (words s) range = range
put_into_range name text (items ts) range = range
put_into_range name text (members ms) range = say_in_range name text ms range

filled_in_range : (name text : List ℕ) (tree : Meaning) → InRange tree → InRange (filled name text tree)
filled_in_range name text tree range =
    cond_both (is_some (member_of name tree)) tree (put_in name text tree) InRange (λ there. range) (λ missing. put_into_range name text tree range)

object_in_range : (group resource kind version : List ℕ) (item : Meaning) → InRange item → InRange (object_entry group resource kind version item)
object_in_range group resource kind version item range =
    let f1 = say (codes "group") group no_fields in
    let f2 = say (codes "resource") resource f1 in
    let r1 = say_in_range (codes "group") group no_fields tt in
    let r2 = say_in_range (codes "resource") resource f1 r1 in
    let named = filled_in_range (codes "kind") kind item range in
    put_in_range (codes "object") (whole_item kind version item) f2 (filled_in_range (codes "apiVersion") version (filled (codes "kind") kind item) named) r2

objects_in_range : (list : Meaning) (found : Option (Meaning × Meaning)) → InRange list → KidsInRange (kids_of (objects_from list found))
objects_in_range list None range = tt
objects_in_range list (Some found) range =
    kids_map (object_entry (group_of (word (codes "groupVersion") found.0)) (word (codes "name") found.1) (word (codes "kind") found.1) (word (codes "groupVersion") found.0))
    (object_in_range (group_of (word (codes "groupVersion") found.0)) (word (codes "name") found.1) (word (codes "kind") found.1) (word (codes "groupVersion") found.0)) (listed (codes "items") list) (listed_in_range (codes "items") list range)

one_is_integer : IsInteger (pos 1)
one_is_integer = inl (omega arith, omega arith)

lag_is_integer : IsInteger (pos (lag_of true))
lag_is_integer = inl (omega arith, omega arith)

lag_in_range : (authorize : Bool) (fields : Fields) → FieldsInRange fields → FieldsInRange (with_lag authorize fields)
lag_in_range true front range = put_in_range (codes "lagNanos") (whole (pos (lag_of true))) front lag_is_integer range
lag_in_range false front range = range

setup_with_in_range : (revision time : List ℕ) (policy : Meaning) (resources objects : List Meaning) (authorize : Bool)
    → InRange policy → KidsInRange (kids_of resources) → KidsInRange (kids_of objects) → InRange (setup_with revision time policy resources objects authorize)
setup_with_in_range revision time policy resources objects authorize governed tracked shown =
    let s1 = say (codes "revision") revision no_fields in
    let begun = say_in_range (codes "time") time s1 (say_in_range (codes "revision") revision no_fields tt) in
    let f1 = say (codes "kind") (codes "PastSetup") no_fields in
    let f2 = put (codes "version") (whole (pos 1)) f1 in
    let f3 = put (codes "start") (start_tree revision time) f2 in
    let f4 = put (codes "authorize") (flag authorize) f3 in
    let f5 = with_lag authorize f4 in
    let f6 = put (codes "policy") policy f5 in
    let f7 = put (codes "resources") (items (kids_of resources)) f6 in
    let r1 = say_in_range (codes "kind") (codes "PastSetup") no_fields tt in
    let r2 = put_in_range (codes "version") (whole (pos 1)) f1 one_is_integer r1 in
    let r3 = put_in_range (codes "start") (start_tree revision time) f2 begun r2 in
    let r4 = put_in_range (codes "authorize") (flag authorize) f3 tt r3 in
    let r5 = lag_in_range authorize f4 r4 in
    let r6 = put_in_range (codes "policy") policy f5 governed r5 in
    let r7 = put_in_range (codes "resources") (items (kids_of resources)) f6 tracked r6 in
    put_in_range (codes "snapshot") (items (kids_of objects)) f7 shown r7

pub setup_in_range : (revision time : List ℕ) (policy : Meaning) (trees shown : List Meaning) (authorize : Bool)
    → InRange policy → All InRange trees → All InRange shown → InRange (setup_tree revision time policy trees shown authorize)
setup_in_range revision time policy trees shown authorize governed known in_range =
    setup_with_in_range revision time policy (flat_map (entries_of trees) trees) (flat_map (objects_of trees) shown) authorize governed
    (kids_flat (entries_of trees) InRange (λ list range. entries_in_range list (found_for trees list)) trees known)
    (kids_flat (objects_of trees) InRange (λ list range. objects_in_range list (found_for trees list) range) shown in_range)
