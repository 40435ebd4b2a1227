-- One item, and one member, of a value that borrows its texts, behind those that are packed.
use Rattle.std.proofs.Common.{◌≡◌, ℕ, zero, suc, ◌+◌, ◌<◌, ◌≤◌, List, [], ◌∷◌, ◌++◌, length, get_or, drop, Bor, nat_cmp, Less, Option, Some, None, option_map, refl, sym, ap, subst, ◌∙◌, append_assoc, append-nil, arith}
use Rattle.std.specs.Cmp.Lexicographic.{slice_cmp}
use Rattle.std.specs.List.{AllByRecursion}
use Rattle.std.specs.List.Sorted.{IsStrictlySortedBy}
use Rattle.std.specs.Map.{keys_of}
use Rattle.serde_json.specs.Data.{item}
use Rattle.base_types.specs.Meaning.{Meaning, Kids, no_kids, kid, Fields, no_fields, field, kids_of, fields_of}
use Rattle.base_types.specs.Names.{names, AreSorted}
use Rattle.base_types.specs.Values.{of_data, of_items, of_members}
use Rattle.borrowed_json.specs.View.{view, items_view, members_view}
use Rattle.borrowed_json.specs.declared.value.JsonValue.{JsonValue}
use Rattle.borrowed_json.proofs.Views.{Entry, name_cmp}
use Rattle.packed_tree.specs.Frames.{framed}
use Rattle.packed_tree.specs.Encoding.{encode, encode_kids}
use Rattle.packed_tree.proofs.Packings.{kids_bytes-snoc}

-- further items, and further members, behind those that are packed
abbrev pub kids_behind : List Meaning → Kids → Kids
kids_behind [] rest = rest
kids_behind (t ∷ ts) rest = kid t (kids_behind ts rest)

abbrev pub fields_behind : List (List ℕ × Meaning) → Fields → Fields
fields_behind [] rest = rest
fields_behind (m ∷ ms) rest = field m.0 m.1 (fields_behind ms rest)

kids_behind-snoc : (ts : List Meaning) (t : Meaning) (rest : Kids) → kids_behind ts (kid t rest) ≡ kids_behind (ts ++ t ∷ []) rest
kids_behind-snoc [] t rest = refl
kids_behind-snoc (x ∷ ts) t rest = ap (kid x) (kids_behind-snoc ts t rest)

kids_behind-none : (ts : List Meaning) → kids_behind ts no_kids ≡ kids_of ts
kids_behind-none [] = refl
kids_behind-none (x ∷ ts) = ap (kid x) (kids_behind-none ts)

fields_behind-snoc : (ms : List (List ℕ × Meaning)) (k : List ℕ) (t : Meaning) (rest : Fields) → fields_behind ms (field k t rest) ≡ fields_behind (ms ++ (k, t) ∷ []) rest
fields_behind-snoc [] k t rest = refl
fields_behind-snoc (m ∷ ms) k t rest = ap (field m.0 m.1) (fields_behind-snoc ms k t rest)

fields_behind-none : (ms : List (List ℕ × Meaning)) → fields_behind ms no_fields ≡ fields_of ms
fields_behind-none [] = refl
fields_behind-none (m ∷ ms) = ap (field m.0 m.1) (fields_behind-none ms)

pub no_kids_before : (found : Option Kids) → found ≡ option_map (kids_behind []) found
no_kids_before None = refl
no_kids_before (Some rest) = refl

pub no_fields_before : (found : Option Fields) → found ≡ option_map (fields_behind []) found
no_fields_before None = refl
no_fields_before (Some rest) = refl

-- the first of the items from a place on
items_from : (vs : List JsonValue) (i : ℕ) (v : JsonValue) → i < length vs → v ≡ get_or vs i v → items_view (drop i vs) ≡ item (view v) (items_view (drop (i + 1) vs))
items_from [] i v within at = absurd (omega arith)
items_from (x ∷ vs) zero v within at = ap (λ y. item (view y) (items_view vs)) (sym at)
items_from (x ∷ vs) (suc i) v within at =
    let next : suc i + 1 ≡ suc (i + 1) = omega arith in
    items_from vs i v (omega arith) at ∙ ap (λ k. item (view v) (items_view (drop k (x ∷ vs)))) (sym next)

kids_more : (values : List Meaning) (t : Meaning) (found : Option Kids) → option_map (kids_behind values) (option_map (kid t) found) ≡ option_map (kids_behind (values ++ t ∷ [])) found
kids_more values t None = refl
kids_more values t (Some rest) = ap Some (kids_behind-snoc values t rest)

fields_more : (values : List (List ℕ × Meaning)) (k : List ℕ) (t : Meaning) (found : Option Fields) → option_map (fields_behind values) (option_map (field k t) found) ≡ option_map (fields_behind (values ++ (k, t) ∷ [])) found
fields_more values k t None = refl
fields_more values k t (Some rest) = ap Some (fields_behind-snoc values k t rest)

pub item_kept : (all : Option Kids) (vs : List JsonValue) (i : ℕ) (v : JsonValue) (values : List Meaning) (t : Meaning) → i < length vs → v ≡ get_or vs i v
    → all ≡ option_map (kids_behind values) (of_items (items_view (drop i vs))) → of_data (view v) ≡ Some t
    → all ≡ option_map (kids_behind (values ++ t ∷ [])) (of_items (items_view (drop (i + 1) vs)))
item_kept all vs i v values t within at reads here =
    reads ∙ ap (λ ds. option_map (kids_behind values) (of_items ds)) (items_from vs i v within at) ∙ rw here (kids_more values t (of_items (items_view (drop (i + 1) vs))))

pub item_refused : (all : Option Kids) (vs : List JsonValue) (i : ℕ) (v : JsonValue) (values : List Meaning) → i < length vs → v ≡ get_or vs i v
    → all ≡ option_map (kids_behind values) (of_items (items_view (drop i vs))) → of_data (view v) ≡ None → all ≡ None
item_refused all vs i v values within at reads here = reads ∙ ap (λ ds. option_map (kids_behind values) (of_items ds)) (items_from vs i v within at) ∙ rw here refl

pub items_packed : (all : Option Kids) (vs : List JsonValue) (i : ℕ) (values : List Meaning) → length vs ≤ i → all ≡ option_map (kids_behind values) (of_items (items_view (drop i vs))) → all ≡ Some (kids_of values)
items_packed all [] zero values past reads = reads ∙ ap Some (kids_behind-none values)
items_packed all [] (suc i) values past reads = reads ∙ ap Some (kids_behind-none values)
items_packed all (v ∷ vs) zero values past reads = absurd (omega arith)
items_packed all (v ∷ vs) (suc i) values past reads = items_packed all vs i values (omega arith) reads

pub item_put : (ts : List Meaning) (t : Meaning) (start old new : List ℕ) → old ≡ start ++ encode_kids (kids_of ts) → new ≡ old ++ framed (encode t) → new ≡ start ++ encode_kids (kids_of (ts ++ t ∷ []))
item_put ts t start old new done here =
    here ∙ ap (λ xs. xs ++ framed (encode t)) done ∙ append_assoc start (encode_kids (kids_of ts)) (framed (encode t)) ∙ ap (λ xs. start ++ xs) (sym (kids_bytes-snoc ts t))

pub member_kept : (all : Option Fields) (rest more : List Entry) (name : Bor (List ℕ)) (v : JsonValue) (values : List (List ℕ × Meaning)) (t : Meaning) → rest ≡ (name, v) ∷ more
    → all ≡ option_map (fields_behind values) (of_members (members_view rest)) → of_data (view v) ≡ Some t
    → all ≡ option_map (fields_behind (values ++ (name.now, t) ∷ [])) (of_members (members_view more))
member_kept all rest more name v values t steps reads here =
    reads ∙ ap (λ es. option_map (fields_behind values) (of_members (members_view es))) steps ∙ rw here (fields_more values name.now t (of_members (members_view more)))

pub member_refused : (all : Option Fields) (rest more : List Entry) (name : Bor (List ℕ)) (v : JsonValue) (values : List (List ℕ × Meaning)) → rest ≡ (name, v) ∷ more
    → all ≡ option_map (fields_behind values) (of_members (members_view rest)) → of_data (view v) ≡ None → all ≡ None
member_refused all rest more name v values steps reads here = reads ∙ ap (λ es. option_map (fields_behind values) (of_members (members_view es))) steps ∙ rw here refl

pub members_packed : (all : Option Fields) (rest : List Entry) (values : List (List ℕ × Meaning)) → rest ≡ [] → all ≡ option_map (fields_behind values) (of_members (members_view rest)) → all ≡ Some (fields_of values)
members_packed all rest values none reads = reads ∙ ap (λ es. option_map (fields_behind values) (of_members (members_view es))) none ∙ ap Some (fields_behind-none values)

-- the names of the members that are still to be packed
abbrev pub entry_names : List Entry → List (List ℕ)
entry_names [] = []
entry_names (e ∷ es) = e.0.now ∷ entry_names es

pub names_kept : (all : List (List ℕ)) (rest more : List Entry) (name : Bor (List ℕ)) (v : JsonValue) (values : List (List ℕ × Meaning)) (t : Meaning) → rest ≡ (name, v) ∷ more
    → all ≡ names values ++ entry_names rest → all ≡ names (values ++ (name.now, t) ∷ []) ++ entry_names more
names_kept all rest more name v values t steps is = is ∙ ap (λ es. names values ++ entry_names es) steps ∙ moved values
  where
    moved : (values : List (List ℕ × Meaning)) → names values ++ name.now ∷ entry_names more ≡ names (values ++ (name.now, t) ∷ []) ++ entry_names more
    moved [] = refl
    moved (m ∷ ms) = ap (λ ks. m.0 ∷ ks) (moved ms)

names_above : (name : Bor (List ℕ)) (es : List Entry) → AllByRecursion (λ y. name_cmp name y ≡ Less) (keys_of es) → AllByRecursion (λ y. slice_cmp nat_cmp name.now y ≡ Less) (entry_names es)
names_above name [] above = tt
names_above name (e ∷ es) above = (above.0, names_above name es above.1)

sorted_entries : (es : List Entry) → IsStrictlySortedBy name_cmp (keys_of es) → IsStrictlySortedBy (slice_cmp nat_cmp) (entry_names es)
unfolding IsStrictlySortedBy
sorted_entries [] sorted = tt
sorted_entries (e ∷ es) sorted = (names_above e.0 es sorted.0, sorted_entries es sorted.1)

pub sorted_names : (es rest : List Entry) (values : List (List ℕ × Meaning)) → rest ≡ [] → entry_names es ≡ names values ++ entry_names rest → IsStrictlySortedBy name_cmp (keys_of es) → AreSorted values
sorted_names es rest values none same sorted =
    let all : entry_names es ≡ names values = same ∙ ap (λ more. names values ++ entry_names more) none ∙ append-nil (names values) in
    subst (IsStrictlySortedBy (slice_cmp nat_cmp)) all (sorted_entries es sorted)
