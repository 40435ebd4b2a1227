-- An object whose members stand in order is kept by its line exactly where each of its values is.
use Rattle.std.proofs.Common.{◌≡◌, ℕ, Bool, true, false, ◌&&◌, List, [], ◌∷◌, ◌++◌, Option, Some, None, option_map, option_and_then, nat_cmp, Ordering, Less, Equal, Greater, refl, sym, ap, ◌∙◌, subst}
use Rattle.std.proofs.lemmas.Bool.{and_parts}
use Rattle.std.specs.Cmp.Lexicographic.{slice_cmp}
use Rattle.serde_json.specs.Data.{Data, array, object, Items, no_items, item, Members, no_members, member, put}
use Rattle.serde_json.specs.Read.{of_json, of_members as read_members, of_items as read_items}
use Rattle.serde_json.specs.Written.{outline, items_outline, members_outline}
use Rattle.base_types.specs.Meaning.{Meaning, items, members, Kids, kid, kids_of, Fields, no_fields, field, fields_of}
use Rattle.base_types.specs.Values.{data_of, data_items, data_members, of_data, of_items, of_members}
use Rattle.base_types.proofs.Found.{found_both}
use Rattle.cluster_setup.proofs.TreeLines.{IsKept, mapped}

-- ---- members that are put in order stand behind one another

abbrev is_above : Ordering → Bool
is_above Less = false
is_above Equal = false
is_above Greater = true

-- the name is above each of these
abbrev is_last : List ℕ → List (List ℕ) → Bool
is_last name [] = true
is_last name (k ∷ ks) = is_above (slice_cmp nat_cmp name k) && is_last name ks

-- each name is above those in front of it, and above these
abbrev pub are_ordered : List (List ℕ) → Fields → Bool
are_ordered front no_fields = true
are_ordered front (field k t ms) = is_last k front && are_ordered (front ++ k ∷ []) ms

abbrev names_of : Members → List (List ℕ)
names_of no_members = []
names_of (member k d ms) = k ∷ names_of ms

abbrev behind : Members → Members → Members
behind no_members more = more
behind (member k d ms) more = member k d (behind ms more)

behind_none : (ms : Members) → behind ms no_members ≡ ms
behind_none no_members = refl
behind_none (member k d ms) = ap (member k d) (behind_none ms)

behind_both : (ms more last : Members) → behind (behind ms more) last ≡ behind ms (behind more last)
behind_both no_members more last = refl
behind_both (member k d ms) more last = ap (member k d) (behind_both ms more last)

names_behind : (ms : Members) (name : List ℕ) (d : Data) → names_of (behind ms (member name d no_members)) ≡ names_of ms ++ name ∷ []
names_behind no_members name d = refl
names_behind (member k e ms) name d = ap (λ l. k ∷ l) (names_behind ms name d)

greater : (o : Ordering) → is_above o ≡ true → o ≡ Greater
greater Less is = absurd (cc)
greater Equal is = absurd (cc)
greater Greater is = refl

put_last : (name : List ℕ) (d : Data) (ms : Members) → is_last name (names_of ms) ≡ true → put name d ms ≡ behind ms (member name d no_members)
put_last name d no_members last = refl
put_last name d (member k e ms) last =
    let parts = and_parts _ _ last in
    rw (greater (slice_cmp nat_cmp name k) parts.0) (ap (member k e) (put_last name d ms parts.1))

-- ---- the values of an object

-- the value of each member, by what is written for it
abbrev values : Fields → Option Members
values no_fields = Some no_members
values (field k t ms) = option_and_then (λ d. option_map (member k d) (values ms)) (of_json (outline (data_of t)))

joined : (k : List ℕ) (d : Data) (front : Members) (o : Option Members) → option_map (behind (behind front (member k d no_members))) o ≡ option_map (behind front) (option_map (member k d) o)
joined k d front None = refl
joined k d front (Some more) = ap (λ m. Some m) (behind_both front (member k d no_members) more)

one_more : (k : List ℕ) (ms : Fields) (front : Members) → is_last k (names_of front) ≡ true → are_ordered (names_of front ++ k ∷ []) ms ≡ true
    → ((next : Members) → are_ordered (names_of next) ms ≡ true → read_members (members_outline (data_members ms)) next ≡ option_map (behind next) (values ms))
    → (o : Option Data) → option_and_then (λ d. read_members (members_outline (data_members ms)) (put k d front)) o ≡ option_map (behind front) (option_and_then (λ d. option_map (member k d) (values ms)) o)
one_more k ms front last ordered rest None = refl
one_more k ms front last ordered rest (Some d) =
    let next = behind front (member k d no_members) in
    ap (read_members (members_outline (data_members ms))) (put_last k d front last)
    ∙ rest next (subst (λ names. are_ordered names ms ≡ true) (sym (names_behind front k d)) ordered)
    ∙ joined k d front (values ms)

read_ordered : (ms : Fields) (front : Members) → are_ordered (names_of front) ms ≡ true → read_members (members_outline (data_members ms)) front ≡ option_map (behind front) (values ms)
read_ordered no_fields front ordered = ap (λ m. Some m) (sym (behind_none front))
read_ordered (field k t ms) front ordered =
    let parts = and_parts _ _ ordered in
    one_more k ms front parts.0 parts.1 (λ next after. read_ordered ms next after) (of_json (outline (data_of t)))

-- the values are there, and their trees are the members'
abbrev AreMembersKept : Fields → Type 0
AreMembersKept ms = (ds : Members) × (values ms ≡ Some ds) × (of_members ds ≡ Some ms)

object_kept : (ms : Fields) → are_ordered [] ms ≡ true → AreMembersKept ms → IsKept (members ms)
object_kept ms ordered kept = (
  object kept.0,
  ap (option_map object) (read_ordered ms no_members ordered ∙ ap (option_map (behind no_members)) kept.1),
  ap (option_map members) kept.2,
)

members_kept : (ms : Fields) → are_ordered [] ms ≡ true → IsKept (members ms) → AreMembersKept ms
members_kept ms ordered kept =
    let read = mapped (option_map (behind no_members) (values ms)) object kept.0 (sym (ap (option_map object) (read_ordered ms no_members ordered)) ∙ kept.1) in
    let found = mapped (values ms) (behind no_members) read.0 read.1 in
    let tree = mapped (of_members found.0) members (members ms) (ap of_data (ap object found.2 ∙ read.2) ∙ kept.2) in
    let same : tree.0 ≡ ms = cc in
    (found.0, found.1, tree.1 ∙ ap (λ m. Some m) same)

first_kept : (k : List ℕ) (t : Meaning) (ms : Fields) → AreMembersKept (field k t ms) → IsKept t × AreMembersKept ms
first_kept k t ms kept =
    let first = found_both (of_json (outline (data_of t))) (λ d. option_map (member k d) (values ms)) kept.0 kept.1 in
    let rest = mapped (values ms) (member k first.0) kept.0 first.2 in
    let tree = found_both (of_data first.0) (λ u. option_map (field k u) (of_members rest.0)) (field k t ms) (ap of_members rest.2 ∙ kept.2) in
    let others = mapped (of_members rest.0) (field k tree.0) (field k t ms) tree.2 in
    let same : tree.0 ≡ t = cc in
    let same_others : others.0 ≡ ms = cc in
    ((first.0, first.1, tree.1 ∙ ap (λ u. Some u) same), (rest.0, rest.1, others.1 ∙ ap (λ m. Some m) same_others))

with_kept : (k : List ℕ) (t : Meaning) (ms : Fields) → IsKept t → AreMembersKept ms → AreMembersKept (field k t ms)
with_kept k t ms here others = (member k here.0 others.0, rw (here.1, others.1) refl, rw (here.2, others.2) refl)

other_value : (front back : List (List ℕ × Meaning)) (name : List ℕ) (t u : Meaning) → (IsKept t → IsKept u) → AreMembersKept (fields_of (front ++ (name, t) ∷ back)) → AreMembersKept (fields_of (front ++ (name, u) ∷ back))
other_value [] back name t u gives kept =
    let parts = first_kept name t (fields_of back) kept in
    with_kept name u (fields_of back) (gives parts.0) parts.1
other_value (m ∷ front) back name t u gives kept =
    let parts = first_kept m.0 m.1 (fields_of (front ++ (name, t) ∷ back)) kept in
    with_kept m.0 m.1 (fields_of (front ++ (name, u) ∷ back)) parts.0 (other_value front back name t u gives parts.1)

-- an object whose members stand in order, with another value that is kept where the old one is
pub value_swapped : (front back : List (List ℕ × Meaning)) (name : List ℕ) (t u : Meaning) → are_ordered [] (fields_of (front ++ (name, t) ∷ back)) ≡ true → are_ordered [] (fields_of (front ++ (name, u) ∷ back)) ≡ true
    → (IsKept t → IsKept u) → IsKept (members (fields_of (front ++ (name, t) ∷ back))) → IsKept (members (fields_of (front ++ (name, u) ∷ back)))
value_swapped front back name t u old new gives kept = object_kept _ new (other_value front back name t u gives (members_kept _ old kept))

-- ---- a list with fewer items

abbrev AreItemsKept : Kids → Type 0
AreItemsKept ts = (ds : Items) × (read_items (items_outline (data_items ts)) ≡ Some ds) × (of_items ds ≡ Some ts)

items_kept : (ts : Kids) → IsKept (items ts) → AreItemsKept ts
items_kept ts kept =
    let read = mapped (read_items (items_outline (data_items ts))) array kept.0 kept.1 in
    let tree = mapped (of_items read.0) items (items ts) (ap of_data read.2 ∙ kept.2) in
    let same : tree.0 ≡ ts = cc in
    (read.0, read.1, tree.1 ∙ ap (λ us. Some us) same)

first_item : (t : Meaning) (ts : Kids) → AreItemsKept (kid t ts) → IsKept t × AreItemsKept ts
first_item t ts kept =
    let first = found_both (of_json (outline (data_of t))) (λ d. option_map (item d) (read_items (items_outline (data_items ts)))) kept.0 kept.1 in
    let rest = mapped (read_items (items_outline (data_items ts))) (item first.0) kept.0 first.2 in
    let tree = found_both (of_data first.0) (λ u. option_map (kid u) (of_items rest.0)) (kid t ts) (ap of_items rest.2 ∙ kept.2) in
    let others = mapped (of_items rest.0) (kid tree.0) (kid t ts) tree.2 in
    let same : tree.0 ≡ t = cc in
    let same_others : others.0 ≡ ts = cc in
    ((first.0, first.1, tree.1 ∙ ap (λ u. Some u) same), (rest.0, rest.1, others.1 ∙ ap (λ us. Some us) same_others))

with_item : (t : Meaning) (ts : Kids) → IsKept t → AreItemsKept ts → AreItemsKept (kid t ts)
with_item t ts here others = (item here.0 others.0, rw (here.1, others.1) refl, rw (here.2, others.2) refl)

first_items : (xs ys : List Meaning) → AreItemsKept (kids_of (xs ++ ys)) → AreItemsKept (kids_of xs)
first_items [] ys kept = (no_items, refl, refl)
first_items (x ∷ xs) ys kept =
    let parts = first_item x (kids_of (xs ++ ys)) kept in
    with_item x (kids_of xs) parts.0 (first_items xs ys parts.1)

pub fewer_kept : (xs ys : List Meaning) → IsKept (items (kids_of (xs ++ ys))) → IsKept (items (kids_of xs))
fewer_kept xs ys kept =
    let first = first_items xs ys (items_kept (kids_of (xs ++ ys)) kept) in
    (array first.0, ap (option_map array) first.1, ap (option_map items) first.2)
