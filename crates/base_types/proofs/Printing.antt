-- The JSON value of a tree, and the tree of that value.
use Rattle.std.proofs.Common.{◌≡◌, ℕ, zero, suc, ◌+◌, ◌<◌, pos, negsuc, List, [], ◌∷◌, ◌++◌, length, get_or, take, Some, Result, Ok, Err, IfOk, option_map, string_bytes, string_cmp, nat_cmp, Less, Greater, refl, sym, ap, subst, ◌∙◌, arith}
use Rattle.std.specs.Ordering.{ordering_reverse}
use Rattle.std.specs.Cmp.Lexicographic.{slice_cmp, nat_list_cmp_total}
use Rattle.std.specs.List.{AllByRecursion}
use Rattle.std.specs.List.Sorted.{IsStrictlySortedBy}
use Rattle.std.specs.BTreeMap.{insert_entry}
use Rattle.std.specs.declared.alloc.Global.{Global}
use Rattle.std.specs.declared.string.String.{String}
use Rattle.serde_json.specs.Data.{item, member}
use Rattle.serde_json.specs.View.{view, items_view, members_view}
use Rattle.serde_json.specs.declared.value.Value.{Value}
use Rattle.serde_json.proofs.Views.{Entry}
use Rattle.base_types.specs.Meaning.{Meaning, null, flag, whole, words, items, members, Kids, no_kids, kid, Fields, no_fields, field, kids_of, fields_of}
use Rattle.base_types.specs.Names.{names, AreSorted}
use Rattle.base_types.specs.Size.{nodes, kids_nodes, fields_nodes}
use Rattle.base_types.specs.Values.{of_data, of_items, of_members, data_of, data_items, data_members, InRange, KidsInRange, FieldsInRange}
use Rattle.base_types.proofs.Reading.{entry_names}

mutual
  pub of_data-data_of : (t : Meaning) → of_data (data_of t) ≡ Some t
  of_data-data_of null = refl
  of_data-data_of (flag b) = refl
  of_data-data_of (whole (pos n)) = refl
  of_data-data_of (whole (negsuc n)) = refl
  of_data-data_of (words s) = refl
  of_data-data_of (items ts) = ap (option_map items) (of_items-data_items ts)
  of_data-data_of (members ms) = ap (option_map members) (of_members-data_members ms)

  pub of_items-data_items : (ts : Kids) → of_items (data_items ts) ≡ Some ts
  of_items-data_items no_kids = refl
  of_items-data_items (kid t ts) = rw (of_data-data_of t, of_items-data_items ts) refl

  pub of_members-data_members : (ms : Fields) → of_members (data_members ms) ≡ Some ms
  of_members-data_members no_fields = refl
  of_members-data_members (field k t ms) = rw (of_data-data_of t, of_members-data_members ms) refl

pub read_backs : {E : Type 0} (r : Result Value E) (t : Meaning) → IfOk r (λ v. view v ≡ data_of t) → IfOk r (λ v. of_data (view v) ≡ Some t)
read_backs (Ok v) t e = ap of_data e ∙ of_data-data_of t
read_backs (Err x) t e = tt

pub insert_last : (es : List Entry) (k : String Global) (v : Value) → AllByRecursion (λ y. slice_cmp nat_cmp y (string_bytes k) ≡ Less) (entry_names es) → insert_entry string_cmp es k v ≡ es ++ (k, v) ∷ []
insert_last [] k v h = refl
insert_last (e ∷ es) k v h =
    let above : slice_cmp nat_cmp (string_bytes k) (string_bytes e.0) ≡ Greater = nat_list_cmp_total.antisymm (string_bytes k) (string_bytes e.0) ∙ ap ordering_reverse h.0 in
    rw above (ap (λ l. e ∷ l) (insert_last es k v h.1))

pub kid_smaller : (ts : List Meaning) (i : ℕ) (d : Meaning) → i < length ts → nodes (get_or ts i d) < kids_nodes (kids_of ts)
kid_smaller [] i d lt = absurd (omega arith)
kid_smaller (t ∷ ts) zero d lt = omega arith
kid_smaller (t ∷ ts) (suc i) d lt = let rest = kid_smaller ts i d (omega arith) in omega arith

pub field_smaller : (ms : List (List ℕ × Meaning)) (i : ℕ) (d : List ℕ × Meaning) → i < length ms → nodes (get_or ms i d).1 + 1 < fields_nodes (fields_of ms)
field_smaller [] i d lt = absurd (omega arith)
field_smaller (m ∷ ms) zero d lt = omega arith
field_smaller (m ∷ ms) (suc i) d lt = let rest = field_smaller ms i d (omega arith) in omega arith

pub kid_in_range : (ts : List Meaning) (i : ℕ) (d : Meaning) → i < length ts → KidsInRange (kids_of ts) → InRange (get_or ts i d)
kid_in_range [] i d lt h = absurd (omega arith)
kid_in_range (t ∷ ts) zero d lt h = h.0
kid_in_range (t ∷ ts) (suc i) d lt h = kid_in_range ts i d (omega arith) h.1

pub field_in_range : (ms : List (List ℕ × Meaning)) (i : ℕ) (d : List ℕ × Meaning) → i < length ms → FieldsInRange (fields_of ms) → InRange (get_or ms i d).1
field_in_range [] i d lt h = absurd (omega arith)
field_in_range (m ∷ ms) zero d lt h = h.0
field_in_range (m ∷ ms) (suc i) d lt h = field_in_range ms i d (omega arith) h.1

pub items_more : (vs : List Value) (v : Value) (ts : List Meaning) (i : ℕ) (d : Meaning) → i < length ts → items_view vs ≡ data_items (kids_of (take i ts)) → view v ≡ data_of (get_or ts i d)
    → items_view (vs ++ v ∷ []) ≡ data_items (kids_of (take (i + 1) ts))
items_more vs v [] i d lt e here = absurd (omega arith)
items_more [] v (t ∷ ts) zero d lt e here = rw here refl
items_more (x ∷ vs) v (t ∷ ts) zero d lt e here = absurd (cc)
items_more [] v (t ∷ ts) (suc i) d lt e here = absurd (cc)
items_more (x ∷ vs) v (t ∷ ts) (suc i) d lt e here =
    let next : suc i + 1 ≡ suc (i + 1) = omega arith in
    let first : view x ≡ data_of t = cc in
    let rest : items_view vs ≡ data_items (kids_of (take i ts)) = cc in
    rw next (λ j. item (first j) (items_more vs v ts i d (omega arith) rest here j))

pub members_more : (es : List Entry) (k : String Global) (v : Value) (ms : List (List ℕ × Meaning)) (i : ℕ) (d : List ℕ × Meaning) → i < length ms
    → members_view es ≡ data_members (fields_of (take i ms)) → string_bytes k ≡ (get_or ms i d).0 → view v ≡ data_of (get_or ms i d).1
    → members_view (es ++ (k, v) ∷ []) ≡ data_members (fields_of (take (i + 1) ms))
members_more es k v [] i d lt e named here = absurd (omega arith)
members_more [] k v (m ∷ ms) zero d lt e named here = rw (here, named) refl
members_more (x ∷ es) k v (m ∷ ms) zero d lt e named here = absurd (cc)
members_more [] k v (m ∷ ms) (suc i) d lt e named here = absurd (cc)
members_more (x ∷ es) k v (m ∷ ms) (suc i) d lt e named here =
    let next : suc i + 1 ≡ suc (i + 1) = omega arith in
    let name : string_bytes x.0 ≡ m.0 = cc in
    let first : view x.1 ≡ data_of m.1 = cc in
    let rest : members_view es ≡ data_members (fields_of (take i ms)) = cc in
    rw next (λ j. member (name j) (first j) (members_more es k v ms i d (omega arith) rest named here j))

names_of : (es : List Entry) (ms : List (List ℕ × Meaning)) → members_view es ≡ data_members (fields_of ms) → entry_names es ≡ names ms
names_of [] [] e = refl
names_of [] (m ∷ ms) e = absurd (cc)
names_of (x ∷ es) [] e = absurd (cc)
names_of (x ∷ es) (m ∷ ms) e =
    let name : string_bytes x.0 ≡ m.0 = cc in
    let rest : members_view es ≡ data_members (fields_of ms) = cc in
    λ j. name j ∷ names_of es ms rest j

-- in order, the names at the front are below the next
names_below : (ms : List (List ℕ × Meaning)) (i : ℕ) (d : List ℕ × Meaning) → i < length ms → AreSorted ms → AllByRecursion (λ y. slice_cmp nat_cmp y (get_or ms i d).0 ≡ Less) (names (take i ms))
unfolding IsStrictlySortedBy
names_below [] i d lt s = absurd (omega arith)
names_below (m ∷ ms) zero d lt s = tt
names_below (m ∷ ms) (suc i) d lt s = (first ms i (omega arith) s.0, names_below ms i d (omega arith) s.1)
  where
    first : (ms : List (List ℕ × Meaning)) (i : ℕ) → i < length ms → AllByRecursion (λ y. slice_cmp nat_cmp m.0 y ≡ Less) (names ms) → slice_cmp nat_cmp m.0 (get_or ms i d).0 ≡ Less
    first [] i lt h = absurd (omega arith)
    first (n ∷ ms) zero lt h = h.0
    first (n ∷ ms) (suc i) lt h = first ms i (omega arith) h.1

pub entries_below : (es : List Entry) (k : String Global) (ms : List (List ℕ × Meaning)) (i : ℕ) (d : List ℕ × Meaning) → i < length ms → AreSorted ms
    → members_view es ≡ data_members (fields_of (take i ms)) → string_bytes k ≡ (get_or ms i d).0 → AllByRecursion (λ y. slice_cmp nat_cmp y (string_bytes k) ≡ Less) (entry_names es)
entries_below es k ms i d lt s e named =
    subst (λ n. AllByRecursion (λ y. slice_cmp nat_cmp y n ≡ Less) (entry_names es)) (sym named)
    (subst (AllByRecursion (λ y. slice_cmp nat_cmp y (get_or ms i d).0 ≡ Less)) (sym (names_of es (take i ms) e)) (names_below ms i d lt s))
