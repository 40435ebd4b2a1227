-- The trees that a tree with readable numbers holds have readable numbers, and so has its stored form.
use Rattle.std.proofs.Common.{◌≡◌, ℕ, List, Some, inl, inr, subst}
use Rattle.std.specs.Prelude.{codes, bytes_eq}
use Rattle.std.specs.List.{All}
use Rattle.std.proofs.lemmas.Bool.{cond_both}
use Rattle.std.proofs.lemmas.List.Elements.{All-nil, All-cons}
use Rattle.base_types.specs.Meaning.{Meaning, null, flag, whole, words, items, members, Kids, no_kids, kid, kids_list, Fields, no_fields, field}
use Rattle.base_types.specs.Parts.{lookup, member_of, items_of}
use Rattle.base_types.specs.Stored.{fields_without, without, fields_with, with, stored}
use Rattle.base_types.specs.Values.{InRange, KidsInRange, FieldsInRange}
use Rattle.base_types.proofs.Found.{same_some, either}

lookup_in_range : (name : List ℕ) (fields : Fields) (tree : Meaning) → FieldsInRange fields → lookup name fields ≡ Some tree → InRange tree
lookup_in_range name no_fields tree range e = absurd (cc)
lookup_in_range name (field k t rest) tree range e =
    elim (either (bytes_eq k name) (Some t) (lookup name rest) (Some tree) e) [
      | inl first ↦ subst InRange (same_some t tree first.1) range.0
      | inr later ↦ lookup_in_range name rest tree range.1 later.1
    ]

pub member_in_range : (name : List ℕ) (whole_tree tree : Meaning) → InRange whole_tree → member_of name whole_tree ≡ Some tree → InRange tree
member_in_range name null tree range e = absurd (cc)
member_in_range name (flag b) tree range e = absurd (cc)
member_in_range name (whole z) tree range e = absurd (cc)
member_in_range name (words s) tree range e = absurd (cc)
member_in_range name (items ts) tree range e = absurd (cc)
member_in_range name (members ms) tree range e = lookup_in_range name ms tree range e

kids_in_range : (kids : Kids) → KidsInRange kids → All InRange (kids_list kids)
kids_in_range no_kids range = All-nil InRange
kids_in_range (kid t ts) range = All-cons InRange t (kids_list ts) range.0 (kids_in_range ts range.1)

pub items_in_range : (tree : Meaning) (trees : List Meaning) → InRange tree → items_of tree ≡ Some trees → All InRange trees
items_in_range null trees range e = absurd (cc)
items_in_range (flag b) trees range e = absurd (cc)
items_in_range (whole z) trees range e = absurd (cc)
items_in_range (words s) trees range e = absurd (cc)
items_in_range (items ts) trees range e = subst (All InRange) (same_some (kids_list ts) trees e) (kids_in_range ts range)
items_in_range (members ms) trees range e = absurd (cc)

fields_without_in_range : (name : List ℕ) (fields : Fields) → FieldsInRange fields → FieldsInRange (fields_without name fields)
fields_without_in_range name no_fields range = range
fields_without_in_range name (field k t rest) range =
    let others = fields_without_in_range name rest range.1 in
    cond_both (bytes_eq k name) (fields_without name rest) (field k t (fields_without name rest)) FieldsInRange
    (λ dropped. others) (λ stays. (range.0, others))

without_in_range : (name : List ℕ) (tree : Meaning) → InRange tree → InRange (without name tree)
without_in_range name null range = range
without_in_range name (flag b) range = range
without_in_range name (whole z) range = range
without_in_range name (words s) range = range
without_in_range name (items ts) range = range
without_in_range name (members ms) range = fields_without_in_range name ms range

fields_with_in_range : (name : List ℕ) (change : Meaning → Meaning) → ((tree : Meaning) → InRange tree → InRange (change tree))
    → (fields : Fields) → FieldsInRange fields → FieldsInRange (fields_with name change fields)
fields_with_in_range name change keeps no_fields range = range
fields_with_in_range name change keeps (field k t rest) range = (
  cond_both (bytes_eq k name) (change t) t InRange (λ changed. keeps t range.0) (λ stays. range.0),
  fields_with_in_range name change keeps rest range.1,
)

with_in_range : (name : List ℕ) (change : Meaning → Meaning) → ((tree : Meaning) → InRange tree → InRange (change tree))
    → (tree : Meaning) → InRange tree → InRange (with name change tree)
with_in_range name change keeps null range = range
with_in_range name change keeps (flag b) range = range
with_in_range name change keeps (whole z) range = range
with_in_range name change keeps (words s) range = range
with_in_range name change keeps (items ts) range = range
with_in_range name change keeps (members ms) range = fields_with_in_range name change keeps ms range

pub stored_in_range : (tree : Meaning) → InRange tree → InRange (stored tree)
stored_in_range tree range =
    with_in_range (codes "metadata") (without (codes "managedFields")) (without_in_range (codes "managedFields"))
    (without (codes "kind") (without (codes "apiVersion") tree))
    (without_in_range (codes "kind") (without (codes "apiVersion") tree) (without_in_range (codes "apiVersion") tree range))
