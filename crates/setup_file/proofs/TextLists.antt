-- A list that is a member of a text's tree has at most as many items as the text has bytes.
use Rattle.std.proofs.Common.{◌≡◌, ℕ, suc, ◌≤◌, List, length, Bool, true, false, cond, Option, Some, None, bytes_eq, refl, sym, ap, subst, ◌∙◌}
use Rattle.std.specs.Prelude.{pos, option_map}
use Rattle.std.specs.declared.cmp.Ordering.{Ordering}
use Rattle.std.specs.declared.cmp.Ordering.TheVariants.{Less, Equal, Greater}
use Rattle.std.specs.Cmp.Lexicographic.{slice_cmp}
use Rattle.std.specs.Ordering.{is_eq, match_ordering, nat_cmp}
use Rattle.std.proofs.lemmas.Bool.Decides.{same_from_decides}
use Rattle.std.proofs.lemmas.Map.Text.{is_eq-slice_cmp}
use Rattle.std.proofs.lemmas.Slice.Eq.{bytes_eq-Decides}
use Rattle.serde_json.specs.Data.{unsigned, negative, float, Data, boolean, number, string, array, object, Items, no_items, item, Members, no_members, member, null as json_null}
use Rattle.serde_json.specs.Find.{get, get_member}
use Rattle.serde_json.specs.Read.{read}
use Rattle.base_types.specs.Items.{item_list}
use Rattle.base_types.specs.Meaning.{Meaning, null, flag, whole, words, items, members, Kids, no_kids, kid, kids_list, Fields, no_fields, field}
use Rattle.base_types.specs.Parts.{lookup, member_of, items_of}
use Rattle.base_types.specs.Values.{of_data, of_items, of_members}
use Rattle.base_types.proofs.Found.{same_some, found_both}
use Rattle.packed_tree.proofs.Sizes.{member_within}

mapped : {A B : Type 0} (f : A → B) (o : Option A) (y : B) → option_map f o ≡ Some y → (x : A) × (o ≡ Some x) × (f x ≡ y)
mapped f None y is = absurd (cc)
mapped f (Some x) y is = (x, refl, same_some (f x) y is)

-- what a member of an object was made of
made_of : (k : List ℕ) (d : Data) (ms : Members) (fields : Fields) → of_members (member k d ms) ≡ Some fields
    → (t : Meaning) × (rest : Fields) × (of_data d ≡ Some t) × (of_members ms ≡ Some rest) × (field k t rest ≡ fields)
made_of k d ms fields is =
    let first = found_both (of_data d) (λ t. option_map (field k t) (of_members ms)) fields is in
    let others = mapped (field k first.0) (of_members ms) fields first.2 in
    (first.0, others.0, first.1, others.1, others.2)

by_equal : {A : Type 0} (o : Ordering) (x y : A) → match_ordering o x y x ≡ cond (is_eq o) y x
by_equal Less x y = refl
by_equal Equal x y = refl
by_equal Greater x y = refl

same_text : (k l : List ℕ) → is_eq (slice_cmp nat_cmp k l) ≡ bytes_eq l k
same_text k l =
    is_eq-slice_cmp k l
    ∙ same_from_decides (bytes_eq k l) (bytes_eq l k) (λ same. sym ((bytes_eq-Decides k l).0 same), λ same. (bytes_eq-Decides k l).1 (sym same)) (bytes_eq-Decides l k)

lookup_made : (name : List ℕ) (ms : Members) (fields : Fields) (tree : Meaning) → of_members ms ≡ Some fields → lookup name fields ≡ Some tree
    → (d : Data) × (get_member name ms ≡ Some d) × (of_data d ≡ Some tree)
lookup_made name no_members fields tree made found =
    let none : None ≡ Some tree = ap (lookup name) (same_some no_fields fields made) ∙ found in
    absurd (cc)
lookup_made name (member k d ms) fields tree made found =
    let parts = made_of k d ms fields made in
    let first : cond (bytes_eq k name) (Some parts.0) (lookup name parts.1) ≡ Some tree = ap (lookup name) parts.4 ∙ found in
    let turn = by_equal (slice_cmp nat_cmp name k) (get_member name ms) (Some d) ∙ ap (λ same. cond same (Some d) (get_member name ms)) (same_text name k) in
    by (bytes_eq k name) parts.0 parts.1 parts.2 (λ later. lookup_made name ms parts.1 tree parts.3 later) first turn
  where
    by : (same : Bool) (t : Meaning) (rest : Fields) → of_data d ≡ Some t → (lookup name rest ≡ Some tree → (e : Data) × (get_member name ms ≡ Some e) × (of_data e ≡ Some tree))
        → cond same (Some t) (lookup name rest) ≡ Some tree → get_member name (member k d ms) ≡ cond same (Some d) (get_member name ms)
        → (e : Data) × (get_member name (member k d ms) ≡ Some e) × (of_data e ≡ Some tree)
    by true t rest here later is turn = (d, turn, here ∙ is)
    by false t rest here later is turn = let more = later is in (more.0, turn ∙ more.1, more.2)

-- what a member of a tree was made of
member_made : (name : List ℕ) (value : Data) (tree part : Meaning) → of_data value ≡ Some tree → member_of name tree ≡ Some part
    → (d : Data) × (get name value ≡ Some d) × (of_data d ≡ Some part)
member_made name json_null tree part made found = let none : None ≡ Some part = ap (member_of name) (same_some null tree made) ∙ found in absurd (cc)
member_made name (boolean b) tree part made found = let none : None ≡ Some part = ap (member_of name) (same_some (flag b) tree made) ∙ found in absurd (cc)
member_made name (number (unsigned n)) tree part made found = let none : None ≡ Some part = ap (member_of name) (same_some (whole (pos n)) tree made) ∙ found in absurd (cc)
member_made name (number (negative z)) tree part made found = let none : None ≡ Some part = ap (member_of name) (same_some (whole z) tree made) ∙ found in absurd (cc)
member_made name (number (float x)) tree part made found = absurd (cc)
member_made name (string s) tree part made found = let none : None ≡ Some part = ap (member_of name) (same_some (words s) tree made) ∙ found in absurd (cc)
member_made name (array ds) tree part made found =
    let kids = mapped items (of_items ds) tree made in
    let none : None ≡ Some part = ap (member_of name) kids.2 ∙ found in
    absurd (cc)
member_made name (object ms) tree part made found =
    let fields = mapped members (of_members ms) tree made in
    lookup_made name ms fields.0 part fields.1 (ap (member_of name) fields.2 ∙ found)

kids_as_many : (ds : Items) (kids : Kids) → of_items ds ≡ Some kids → length (kids_list kids) ≡ length (item_list ds)
kids_as_many no_items kids made = ap (λ ts. length (kids_list ts)) (sym (same_some no_kids kids made))
kids_as_many (item d ds) kids made =
    let first = found_both (of_data d) (λ t. option_map (kid t) (of_items ds)) kids made in
    let others = mapped (kid first.0) (of_items ds) kids first.2 in
    ap (λ ts. length (kids_list ts)) (sym others.2) ∙ ap suc (kids_as_many ds others.0 others.1)

-- the array that a list was made of
list_made : (value : Data) (tree : Meaning) (trees : List Meaning) → of_data value ≡ Some tree → items_of tree ≡ Some trees
    → (ds : Items) × (value ≡ array ds) × (length trees ≡ length (item_list ds))
list_made json_null tree trees made found = let none : None ≡ Some trees = ap items_of (same_some null tree made) ∙ found in absurd (cc)
list_made (boolean b) tree trees made found = let none : None ≡ Some trees = ap items_of (same_some (flag b) tree made) ∙ found in absurd (cc)
list_made (number (unsigned n)) tree trees made found = let none : None ≡ Some trees = ap items_of (same_some (whole (pos n)) tree made) ∙ found in absurd (cc)
list_made (number (negative z)) tree trees made found = let none : None ≡ Some trees = ap items_of (same_some (whole z) tree made) ∙ found in absurd (cc)
list_made (number (float x)) tree trees made found = absurd (cc)
list_made (string s) tree trees made found = let none : None ≡ Some trees = ap items_of (same_some (words s) tree made) ∙ found in absurd (cc)
list_made (array ds) tree trees made found =
    let kids = mapped items (of_items ds) tree made in
    let same = same_some (kids_list kids.0) trees (ap items_of kids.2 ∙ found) in
    (ds, refl, ap length (sym same) ∙ kids_as_many ds kids.0 kids.1)
list_made (object ms) tree trees made found =
    let fields = mapped members (of_members ms) tree made in
    let none : None ≡ Some trees = ap items_of fields.2 ∙ found in
    absurd (cc)

pub list_within : (bytes name : List ℕ) (value : Data) (tree list : Meaning) (trees : List Meaning) → read bytes ≡ Some value → of_data value ≡ Some tree
    → member_of name tree ≡ Some list → items_of list ≡ Some trees → length trees ≤ length bytes
list_within bytes name value tree list trees reads made found listed =
    let part = member_made name value tree list made found in
    let many = list_made part.0 list trees part.2 listed in
    let few = member_within bytes name value many.0 reads (part.1 ∙ ap Some many.1) in
    subst (λ n. n ≤ length bytes) (sym many.2) few
