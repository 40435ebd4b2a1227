-- The tree of a JSON value, one item or member after another.
use Rattle.std.proofs.Common.{◌≡◌, ℕ, zero, suc, ◌+◌, ◌<◌, List, [], ◌∷◌, ◌++◌, length, get_or, take, Option, Some, None, option_map, option_and_then, string_bytes, string_cmp, nat_cmp, Less, refl, sym, ap, subst, arith}
use Rattle.std.specs.Cmp.Lexicographic.{slice_cmp}
use Rattle.std.specs.List.{AllByRecursion}
use Rattle.std.specs.List.Sorted.{IsStrictlySortedBy}
use Rattle.std.specs.Map.{keys_of}
use Rattle.serde_json.specs.View.{view, items_view, members_view}
use Rattle.serde_json.specs.declared.value.Value.{Value}
use Rattle.serde_json.proofs.Views.{Entry}
use Rattle.base_types.specs.Meaning.{Meaning, Kids, Fields, kid, field, kids_of, fields_of}
use Rattle.base_types.specs.Names.{names, AreSorted}
use Rattle.base_types.specs.Values.{of_data, of_items, of_members, InRange, KidsInRange, FieldsInRange}

abbrev pub entry_names : List Entry → List (List ℕ)
entry_names [] = []
entry_names (e ∷ es) = string_bytes e.0 ∷ entry_names es

pub item_read : (vs : List Value) (i : ℕ) (d : Value) (ts : List Meaning) (t : Meaning) → i < length vs
    → of_items (items_view (take i vs)) ≡ Some (kids_of ts) → of_data (view (get_or vs i d)) ≡ Some t
    → of_items (items_view (take (i + 1) vs)) ≡ Some (kids_of (ts ++ t ∷ []))
item_read [] i d ts t lt read here = absurd (omega arith)
item_read (v ∷ vs) zero d [] t lt read here = rw here refl
item_read (v ∷ vs) zero d (x ∷ ts) t lt read here = absurd (cc)
item_read (v ∷ vs) (suc i) d ts t lt read here =
    let e : suc i + 1 ≡ suc (i + 1) = omega arith in
    rw e (go ts (of_data (view v)) (of_items (items_view (take i vs))) refl read (λ more tail. item_read vs i d more t (omega arith) tail here))
  where
    go : (ts : List Meaning) (first : Option Meaning) (rest : Option Kids) → rest ≡ of_items (items_view (take i vs)) → option_and_then (λ t. option_map (kid t) rest) first ≡ Some (kids_of ts)
        → ((more : List Meaning) → of_items (items_view (take i vs)) ≡ Some (kids_of more) → of_items (items_view (take (i + 1) vs)) ≡ Some (kids_of (more ++ t ∷ [])))
        → option_and_then (λ t. option_map (kid t) (of_items (items_view (take (i + 1) vs)))) first ≡ Some (kids_of (ts ++ t ∷ []))
    go ts None rest is read longer = absurd (cc)
    go ts (Some x) None is read longer = absurd (cc)
    go [] (Some x) (Some more) is read longer = absurd (cc)
    go (y ∷ ts) (Some x) (Some more) is read longer =
        let same : x ≡ y = cc in
        let tail : of_items (items_view (take i vs)) ≡ Some (kids_of ts) = cc in
        rw (longer ts tail, same) refl

pub item_refused : (vs : List Value) (i : ℕ) (d : Value) → i < length vs → of_data (view (get_or vs i d)) ≡ None → of_items (items_view vs) ≡ None
item_refused [] i d lt none = absurd (omega arith)
item_refused (v ∷ vs) zero d lt none = rw none refl
item_refused (v ∷ vs) (suc i) d lt none = rw (item_refused vs i d (omega arith) none) (go (of_data (view v)))
  where
    go : (first : Option Meaning) → option_and_then (λ t. option_map (kid t) None) first ≡ None
    go None = refl
    go (Some x) = refl

pub kids_range-snoc : (ts : List Meaning) (t : Meaning) → KidsInRange (kids_of ts) → InRange t → KidsInRange (kids_of (ts ++ t ∷ []))
kids_range-snoc [] t all here = (here, tt)
kids_range-snoc (x ∷ ts) t all here = (all.0, kids_range-snoc ts t all.1 here)

pub fields_range-snoc : (ms : List (List ℕ × Meaning)) (k : List ℕ) (t : Meaning) → FieldsInRange (fields_of ms) → InRange t → FieldsInRange (fields_of (ms ++ (k, t) ∷ []))
fields_range-snoc [] k t all here = (here, tt)
fields_range-snoc (m ∷ ms) k t all here = (all.0, fields_range-snoc ms k t all.1 here)

pub member_read : (es : List Entry) (e : Entry) (ms : List (List ℕ × Meaning)) (k : List ℕ) (t : Meaning)
    → of_members (members_view es) ≡ Some (fields_of ms) → k ≡ string_bytes e.0 → of_data (view e.1) ≡ Some t
    → of_members (members_view (es ++ e ∷ [])) ≡ Some (fields_of (ms ++ (k, t) ∷ []))
member_read [] e [] k t read named here = rw (here, named) refl
member_read [] e (m ∷ ms) k t read named here = absurd (cc)
member_read (f ∷ es) e ms k t read named here = go ms (of_data (view f.1)) (of_members (members_view es)) refl read (λ more tail. member_read es e more k t tail named here)
  where
    go : (ms : List (List ℕ × Meaning)) (first : Option Meaning) (rest : Option Fields) → rest ≡ of_members (members_view es)
        → option_and_then (λ t. option_map (field (string_bytes f.0) t) rest) first ≡ Some (fields_of ms)
        → ((more : List (List ℕ × Meaning)) → of_members (members_view es) ≡ Some (fields_of more) → of_members (members_view (es ++ e ∷ [])) ≡ Some (fields_of (more ++ (k, t) ∷ [])))
        → option_and_then (λ t. option_map (field (string_bytes f.0) t) (of_members (members_view (es ++ e ∷ [])))) first ≡ Some (fields_of (ms ++ (k, t) ∷ []))
    go ms None rest is read longer = absurd (cc)
    go ms (Some x) None is read longer = absurd (cc)
    go [] (Some x) (Some more) is read longer = absurd (cc)
    go (m ∷ ms) (Some x) (Some more) is read longer =
        let same : x ≡ m.1 = cc in
        let name : string_bytes f.0 ≡ m.0 = cc in
        let tail : of_members (members_view es) ≡ Some (fields_of ms) = cc in
        rw (longer ms tail, same, name) refl

pub member_refused : (es : List Entry) (e : Entry) (more : List Entry) → of_data (view e.1) ≡ None → of_members (members_view (es ++ e ∷ more)) ≡ None
member_refused [] e more none = rw none refl
member_refused (f ∷ es) e more none = rw (member_refused es e more none) (go (of_data (view f.1)))
  where
    go : (first : Option Meaning) → option_and_then (λ t. option_map (field (string_bytes f.0) t) None) first ≡ None
    go None = refl
    go (Some x) = refl

all_names : (o : List ℕ) (ks : List (List ℕ)) (es : List Entry) → ks ≡ entry_names es → AllByRecursion (λ y. slice_cmp nat_cmp o (string_bytes y) ≡ Less) (keys_of es) → AllByRecursion (λ y. slice_cmp nat_cmp o y ≡ Less) ks
all_names o ks [] same all = subst (AllByRecursion (λ y. slice_cmp nat_cmp o y ≡ Less)) (sym same) tt
all_names o ks (e ∷ es) same all = subst (AllByRecursion (λ y. slice_cmp nat_cmp o y ≡ Less)) (sym same) (all.0, all_names o (entry_names es) es refl all.1)

sorted_entries : (es : List Entry) → IsStrictlySortedBy string_cmp (keys_of es) → IsStrictlySortedBy (slice_cmp nat_cmp) (entry_names es)
unfolding IsStrictlySortedBy
sorted_entries [] s = tt
sorted_entries (e ∷ es) s = (all_names (string_bytes e.0) (entry_names es) es refl s.0, sorted_entries es s.1)

pub sorted_names : (ms : List (List ℕ × Meaning)) (es : List Entry) → names ms ≡ entry_names es → IsStrictlySortedBy string_cmp (keys_of es) → AreSorted ms
sorted_names ms es same s = subst (IsStrictlySortedBy (slice_cmp nat_cmp)) (sym same) (sorted_entries es s)

pub names-snoc : (ms : List (List ℕ × Meaning)) (k : List ℕ) (t : Meaning) → names (ms ++ (k, t) ∷ []) ≡ names ms ++ k ∷ []
names-snoc [] k t = refl
names-snoc (m ∷ ms) k t = ap (λ ks. m.0 ∷ ks) (names-snoc ms k t)

pub entry_names-snoc : (es : List Entry) (e : Entry) → entry_names (es ++ e ∷ []) ≡ entry_names es ++ string_bytes e.0 ∷ []
entry_names-snoc [] e = refl
entry_names-snoc (f ∷ es) e = ap (λ ks. string_bytes f.0 ∷ ks) (entry_names-snoc es e)
