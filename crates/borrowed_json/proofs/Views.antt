-- The members of an object, by their names.
use Rattle.std.proofs.Common.{◌≡◌, ℕ, List, [], ◌∷◌, Option, Some, None, option_map, Ordering, Less, Equal, Greater, nat_cmp, is_eq, cond, Bor, refl, ap}
use Rattle.std.specs.Cmp.Lexicographic.{slice_cmp}
use Rattle.std.specs.Map.{lookup}
use Rattle.std.specs.Option.{option_copied}
use Rattle.std.specs.Ordering.{match_ordering}
use Rattle.std.specs.BTreeMap.{insert_entry, is_at}
use Rattle.serde_json.specs.Data.{Data, null, boolean, number, string, array, object, Members, member, put}
use Rattle.serde_json.specs.Find.{get, get_member, as_object}
use Rattle.borrowed_json.specs.View.{view, members_view}
use Rattle.borrowed_json.specs.declared.value.JsonValue.{JsonValue}

abbrev pub Entry : Type 0
Entry = Bor (List ℕ) × JsonValue

-- names by their bytes
abbrev pub name_cmp : Bor (List ℕ) → Bor (List ℕ) → Ordering
name_cmp a b = slice_cmp nat_cmp a.now b.now

-- what is inserted is put among the members
pub inserted : (es : List Entry) (name : Bor (List ℕ)) (value : JsonValue) → members_view (insert_entry name_cmp es name value) ≡ put name.now (view value) (members_view es)
inserted [] name value = refl
inserted (e ∷ es) name value = at (name_cmp name e.0) (inserted es name value)
  where
    at : (o : Ordering) → members_view (insert_entry name_cmp es name value) ≡ put name.now (view value) (members_view es)
        → members_view (match_ordering o ((name, value) ∷ e ∷ es) ((e.0, value) ∷ es) (e ∷ insert_entry name_cmp es name value))
        ≡ match_ordering o (member name.now (view value) (members_view (e ∷ es))) (member e.0.now (view value) (members_view es)) (member e.0.now (view e.1) (put name.now (view value) (members_view es)))
    at Less rest = refl
    at Equal rest = refl
    at Greater rest = ap (member e.0.now (view e.1)) rest

-- what is found at a name is its member
pub looked_up : (name : List ℕ) (es : List Entry) → option_map view (lookup (is_at (λ k. slice_cmp nat_cmp name k.now)) es) ≡ get_member name (members_view es)
looked_up name [] = refl
looked_up name (e ∷ es) = at (slice_cmp nat_cmp name e.0.now) (looked_up name es)
  where
    at : (o : Ordering) → option_map view (lookup (is_at (λ k. slice_cmp nat_cmp name k.now)) es) ≡ get_member name (members_view es)
        → option_map view (cond (is_eq o) (Some e.1) (lookup (is_at (λ k. slice_cmp nat_cmp name k.now)) es))
        ≡ match_ordering o (get_member name (members_view es)) (Some (view e.1)) (get_member name (members_view es))
    at Less rest = rest
    at Equal rest = refl
    at Greater rest = rest

-- a member of an object
pub member_of : (name : List ℕ) (d : Data) (ms : Members) → Some ms ≡ as_object d → get_member name ms ≡ get name d
member_of name null ms is = absurd (cc)
member_of name (boolean flag) ms is = absurd (cc)
member_of name (number n) ms is = absurd (cc)
member_of name (string text) ms is = absurd (cc)
member_of name (array items) ms is = absurd (cc)
member_of name (object members) ms is = let same : ms ≡ members = cc in ap (get_member name) same

pub copied : (found : Option (Bor JsonValue)) → option_map (λ value. view value.now) found ≡ option_map view (option_copied found)
copied None = refl
copied (Some value) = refl
