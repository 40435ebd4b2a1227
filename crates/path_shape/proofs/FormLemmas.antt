-- Thin forms: what is left of members and items.
use Rattle.std.proofs.Common.{◌≡◌, ℕ, zero, suc, ◌+◌, ◌<◌, Bool, true, false, List, [], ◌∷◌, length, get_or, drop, Option, Some, None, refl, sym, ap, subst, ◌∙◌, arith, add-one, drop-cons, bytes_eq}
use Rattle.std.specs.Prelude.{option_and_then, option_map, if◌then◌else◌}
use Rattle.std.specs.Ordering.{nat_cmp, ordering_reverse}
use Rattle.std.specs.declared.cmp.Ordering.TheVariants.{Less, Greater}
use Rattle.std.specs.Cmp.Lexicographic.{slice_cmp, nat_list_cmp_total}
use Rattle.std.specs.List.{AllByRecursion}
use Rattle.std.specs.List.Sorted.{IsStrictlySortedBy}
use Rattle.base_types.specs.Meaning.{Meaning, null, flag, whole, words, items, members, Kids, no_kids, kid, Fields, no_fields, field, kids_of, fields_of}
use Rattle.base_types.specs.Names.{names, AreSorted}
use Rattle.base_types.specs.Parts.{lookup}
use Rattle.base_types.specs.Pointers.{child_of, kid_at, index_of}
use Rattle.std.proofs.lemmas.Slice.Eq.{bytes_eq-Decides}
use Rattle.base_types.proofs.Ordered.{bytes_eq-Greater}
use Rattle.path_shape.specs.Forms.{says_nothing, has_no_kids, thin, thin_kids, thin_fields, left_of, child_in}

abbrev pub Entry : Type 0
Entry = List ℕ × Meaning

pub no_items : (ts : List Meaning) → length ts ≡ 0 → has_no_kids (thin_kids (kids_of ts)) ≡ true
no_items [] none = refl
no_items (t ∷ ts) none = absurd (omega arith)

pub some_items : (ts : List Meaning) → 0 < length ts → has_no_kids (thin_kids (kids_of ts)) ≡ false
some_items [] some = absurd (omega arith)
some_items (t ∷ ts) some = refl

pub silent_step : (ms : List Entry) (i : ℕ) (m : Entry) → i < length ms → m ≡ get_or ms i m → says_nothing (thin m.1) ≡ true
    → thin_fields (fields_of (drop i ms)) ≡ thin_fields (fields_of (drop (i + 1) ms))
silent_step ms i m lt at silent =
    let cut : drop i ms ≡ m ∷ drop (i + 1) ms = rw (add-one, drop-cons ms i m) (ap (λ x. x ∷ drop (suc i) ms) (sym at)) in
    ap (λ l. thin_fields (fields_of l)) cut ∙ rw silent refl

pub loud_step : (ms : List Entry) (i : ℕ) (m : Entry) → i < length ms → m ≡ get_or ms i m → says_nothing (thin m.1) ≡ false
    → thin_fields (fields_of (drop i ms)) ≡ field m.0 (thin m.1) (thin_fields (fields_of (drop (i + 1) ms)))
loud_step ms i m lt at loud =
    let cut : drop i ms ≡ m ∷ drop (i + 1) ms = rw (add-one, drop-cons ms i m) (ap (λ x. x ∷ drop (suc i) ms) (sym at)) in
    ap (λ l. thin_fields (fields_of l)) cut ∙ rw loud refl

pub kid_at-thin_kids : (n : ℕ) (ks : Kids) → kid_at n (thin_kids ks) ≡ option_map thin (kid_at n ks)
kid_at-thin_kids n no_kids = refl
kid_at-thin_kids zero (kid t ts) = refl
kid_at-thin_kids (suc n) (kid t ts) = kid_at-thin_kids n ts

pub item-thin : (o : Option ℕ) (ks : Kids) → option_and_then (λ n. kid_at n (thin_kids ks)) o ≡ option_map thin (option_and_then (λ n. kid_at n ks) o)
item-thin None ks = refl
item-thin (Some n) ks = kid_at-thin_kids n ks

lookup_above : (name : List ℕ) (ms : List Entry) → AllByRecursion (λ k. slice_cmp nat_cmp name k ≡ Less) (names ms) → lookup name (fields_of ms) ≡ None
lookup_above name [] above = refl
lookup_above name (m ∷ ms) above =
    let after : slice_cmp nat_cmp m.0 name ≡ Greater = nat_list_cmp_total.antisymm m.0 name ∙ ap ordering_reverse above.0 in
    rw (bytes_eq-Greater m.0 name after) (lookup_above name ms above.1)

pub lookup_none : (name : List ℕ) (ms : Fields) → lookup name ms ≡ None → lookup name (thin_fields ms) ≡ None
lookup_none name no_fields none = refl
lookup_none name (field k t ms) none = go (lookup_none name ms) (bytes_eq k name) refl (says_nothing (thin t)) refl
  where
    go : (lookup name ms ≡ None → lookup name (thin_fields ms) ≡ None)
        → (same : Bool) → bytes_eq k name ≡ same → (silent : Bool) → says_nothing (thin t) ≡ silent
        → lookup name (if says_nothing (thin t) then thin_fields ms else field k (thin t) (thin_fields ms)) ≡ None
    go rest true is silent s = absurd (let gone : Some t ≡ None = rw is at none in cc)
    go rest false other true s = rw s (rest (rw other at none))
    go rest false other false s = rw (s, other) (rest (rw other at none))

-- the member of a name in the thin form is what is left of the member of that name
pub lookup-thin_fields : (name : List ℕ) (ms : List Entry) → AreSorted ms → lookup name (thin_fields (fields_of ms)) ≡ option_and_then left_of (lookup name (fields_of ms))
unfolding IsStrictlySortedBy
lookup-thin_fields name [] s = refl
lookup-thin_fields name (m ∷ ms) s = go (lookup-thin_fields name ms s.1) (bytes_eq m.0 name) refl (says_nothing (thin m.1)) refl
  where
    go : lookup name (thin_fields (fields_of ms)) ≡ option_and_then left_of (lookup name (fields_of ms))
        → (same : Bool) → bytes_eq m.0 name ≡ same → (silent : Bool) → says_nothing (thin m.1) ≡ silent
        → lookup name (if says_nothing (thin m.1) then thin_fields (fields_of ms) else field m.0 (thin m.1) (thin_fields (fields_of ms)))
        ≡ option_and_then left_of (if bytes_eq m.0 name then Some m.1 else lookup name (fields_of ms))
    go rest true is true s' =
        let same : m.0 ≡ name = (bytes_eq-Decides m.0 name).0 is in
        rw (is, s') (lookup_none name (fields_of ms) (lookup_above name ms (subst (λ k. AllByRecursion (λ n. slice_cmp nat_cmp k n ≡ Less) (names ms)) same s.0)))
    go rest true is false s' = rw (s', is, s') refl
    go rest false other true s' = rw (s', other) rest
    go rest false other false s' = rw (s', other) rest

pub sorted-drop : (ms : List Entry) (i : ℕ) → AreSorted ms → AreSorted (drop i ms)
unfolding IsStrictlySortedBy
sorted-drop ms zero s = s
sorted-drop [] (suc i) s = tt
sorted-drop (m ∷ ms) (suc i) s = sorted-drop ms i s.1

pub lookup_here : (m : Entry) (ms : List Entry) → lookup m.0 (fields_of (m ∷ ms)) ≡ Some m.1
lookup_here m ms = rw ((bytes_eq-Decides m.0 m.0).1 refl) refl

-- a name before the first of a sorted list has no member
pub lookup_before : (name : List ℕ) (m : Entry) (ms : List Entry) → AreSorted (m ∷ ms) → slice_cmp nat_cmp name m.0 ≡ Less → lookup name (fields_of (m ∷ ms)) ≡ None
unfolding IsStrictlySortedBy
lookup_before name m ms s less =
    lookup_above name (m ∷ ms) (less, below (names ms) s.0)
  where
    below : (ks : List (List ℕ)) → AllByRecursion (λ n. slice_cmp nat_cmp m.0 n ≡ Less) ks → AllByRecursion (λ n. slice_cmp nat_cmp name n ≡ Less) ks
    below [] all = tt
    below (k ∷ ks) all = (nat_list_cmp_total.trans name m.0 k less all.0, below ks all.1)

-- what is left of a value, by whether it says something
pub left_silent : (t : Meaning) → says_nothing (thin t) ≡ true → left_of t ≡ None
left_silent t s = rw s refl

pub left_loud : (t : Meaning) → says_nothing (thin t) ≡ false → left_of t ≡ Some (thin t)
left_loud t s = rw s refl

pub silent_left : (t : Meaning) → left_of t ≡ None → says_nothing (thin t) ≡ true
silent_left t none = go (says_nothing (thin t)) refl
  where
    go : (silent : Bool) → says_nothing (thin t) ≡ silent → says_nothing (thin t) ≡ true
    go true s = s
    go false s = absurd (let gone : Some (thin t) ≡ None = sym (left_loud t s) ∙ none in cc)

pub loud_left : (t u : Meaning) → left_of t ≡ Some u → (says_nothing (thin t) ≡ false) × (thin t ≡ u)
loud_left t u some = go (says_nothing (thin t)) refl
  where
    go : (silent : Bool) → says_nothing (thin t) ≡ silent → (says_nothing (thin t) ≡ false) × (thin t ≡ u)
    go true s = absurd (let gone : None ≡ Some u = sym (left_silent t s) ∙ some in cc)
    go false s = (s, let same : Some (thin t) ≡ Some u = sym (left_loud t s) ∙ some in cc)

-- what a tree lacks its thin form lacks
pub child_none : (name : List ℕ) (t : Meaning) → child_of name t ≡ None → child_of name (thin t) ≡ None
child_none name null none = refl
child_none name (flag b) none = refl
child_none name (whole z) none = refl
child_none name (words s) none = refl
child_none name (items ts) none = item-thin (index_of name) ts ∙ ap (option_map thin) none
child_none name (members ms) none = lookup_none name ms none

pub left_none : (name : List ℕ) (t : Meaning) → child_of name t ≡ None → child_in name (left_of t) ≡ None
left_none name t none = go (says_nothing (thin t))
  where
    go : (silent : Bool) → child_in name (if silent then None else Some (thin t)) ≡ None
    go true = refl
    go false = child_none name t none
