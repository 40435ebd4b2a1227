-- The items and members of a tree, as lists.
use Rattle.std.proofs.Common.{◌≡◌, ℕ, Bool, List, [], ◌∷◌, IsTrue, refl, sym, ap, ◌∙◌}
use Rattle.base_types.specs.Meaning.{Meaning, items, members, Kids, no_kids, Fields, no_fields, kids_of, fields_of, kids_list, fields_list}

pub kids_list-kids_of : (ts : List Meaning) → kids_list (kids_of ts) ≡ ts
kids_list-kids_of [] = refl
kids_list-kids_of (t ∷ ts) = ap (λ rest. t ∷ rest) (kids_list-kids_of ts)

pub fields_list-fields_of : (ms : List (List ℕ × Meaning)) → fields_list (fields_of ms) ≡ ms
fields_list-fields_of [] = refl
fields_list-fields_of (m ∷ ms) = ap (λ rest. m ∷ rest) (fields_list-fields_of ms)

abbrev kids_in : Meaning → Kids
kids_in (items ts) = ts
kids_in _ = no_kids

abbrev fields_in : Meaning → Fields
fields_in (members ms) = ms
fields_in _ = no_fields

pub items-inj : (xs ys : List Meaning) → items (kids_of xs) ≡ items (kids_of ys) → xs ≡ ys
items-inj xs ys p = sym (kids_list-kids_of xs) ∙ ap (λ t. kids_list (kids_in t)) p ∙ kids_list-kids_of ys

pub members-inj : (xs ys : List (List ℕ × Meaning)) → members (fields_of xs) ≡ members (fields_of ys) → xs ≡ ys
members-inj xs ys p = sym (fields_list-fields_of xs) ∙ ap (λ t. fields_list (fields_in t)) p ∙ fields_list-fields_of ys

-- a test of two lists is a test of the trees that hold them
pub same_items : (a b : Meaning) (xs ys : List Meaning) (r : Bool) → a ≡ items (kids_of xs) → b ≡ items (kids_of ys)
    → (IsTrue r → xs ≡ ys) × (xs ≡ ys → IsTrue r) → (IsTrue r → a ≡ b) × (a ≡ b → IsTrue r)
same_items a b xs ys r p q h =
    (λ t. p ∙ ap (λ l. items (kids_of l)) (h.0 t) ∙ sym q, λ e. h.1 (items-inj xs ys (sym p ∙ e ∙ q)))

pub same_members : (a b : Meaning) (xs ys : List (List ℕ × Meaning)) (r : Bool) → a ≡ members (fields_of xs) → b ≡ members (fields_of ys)
    → (IsTrue r → xs ≡ ys) × (xs ≡ ys → IsTrue r) → (IsTrue r → a ≡ b) × (a ≡ b → IsTrue r)
same_members a b xs ys r p q h =
    (λ t. p ∙ ap (λ l. members (fields_of l)) (h.0 t) ∙ sym q, λ e. h.1 (members-inj xs ys (sym p ∙ e ∙ q)))
