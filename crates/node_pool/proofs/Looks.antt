-- A level beside the tree that it stands for, and a search among its members.
use Rattle.std.proofs.Common.{◌≡◌, ◌↔◌, ℕ, zero, suc, ◌<◌, ◌≤◌, Bool, true, false, IsTrue, List, [], ◌∷◌, length, get_or, map, take, Option, Some, None, IfSome, slice_get, option_map, Result, Ok, Err, refl, sym, ap, subst, ◌∙◌, arith}
use Rattle.std.specs.Prelude.{option_and_then}
use Rattle.std.specs.List.{AllByRecursion}
use Rattle.std.specs.List.Sorted.{IsStrictlySortedBy, IsBinarySearchResult, IsSearchInRange}
use Rattle.std.specs.Ordering.{nat_cmp, ordering_index}
use Rattle.std.specs.declared.cmp.Ordering.{Ordering}
use Rattle.std.specs.Cmp.Lexicographic.{slice_cmp}
use Rattle.std.proofs.lemmas.List.{get_or-map}
use Rattle.std.proofs.lemmas.Option.{slice_get-get_or, slice_get_within, slice_get-map}
use Rattle.base_types.specs.Meaning.{Meaning, null, items, members, kids_of, fields_of}
use Rattle.base_types.specs.Names.{names, AreSorted}
use Rattle.base_types.specs.Parts.{lookup}
use Rattle.base_types.specs.Pointers.{kid_at, index_of, child_of}
use Rattle.base_types.specs.Search.{IsNamedAt}
use Rattle.base_types.proofs.Indices.{kid_at-kids_of}
use Rattle.base_types.proofs.Lists.{items-inj, members-inj}
use Rattle.base_types.proofs.Ordered.{found_at, place_at, lookup_found, lookup_absent}
use Rattle.node_pool.specs.Flat.{Flat, flat_items, flat_members}
use Rattle.node_pool.specs.Within.{name_at, tree_at, name_of, field_at, tree_of, looked_up, told, IsFieldWithin, IsWithin}
use Rattle.node_pool.proofs.Levels.{kids_grow, fields_grow}
use Rattle.node_pool.proofs.Walks.{sorted-labels}

-- numbers within a list are found there
kids-told : (ts : List Meaning) (ks : List ℕ) → AllByRecursion (λ k. k < length ts) ks → map (slice_get ts) ks ≡ map Some (map (tree_at ts) ks)
kids-told ts [] all = refl
kids-told ts (k ∷ ks) all = λ i. slice_get-get_or ts k null all.0 i ∷ kids-told ts ks all.1 i

fields-told : (ns : List (List ℕ)) (ts : List Meaning) (ms : List (ℕ × ℕ)) → AllByRecursion (IsFieldWithin ns (length ts)) ms → map (looked_up ns ts) ms ≡ map told (map (field_at ns ts) ms)
fields-told ns ts [] all = refl
fields-told ns ts (m ∷ ms) all = λ i. (name_at ns m.0, slice_get-get_or ts m.1 null all.0.1 i) ∷ fields-told ns ts ms all.1 i

some-inj : {X : Type 0} (x y : X) → Some x ≡ Some y → x ≡ y
some-inj x y e = cc

map_some-inj : (xs ys : List Meaning) → map Some xs ≡ map Some ys → xs ≡ ys
map_some-inj [] [] e = refl
map_some-inj [] (y ∷ ys) e = absurd (cc)
map_some-inj (x ∷ xs) [] e = absurd (cc)
map_some-inj (x ∷ xs) (y ∷ ys) e =
    let first : Some x ≡ Some y = cc in
    let rest : map Some xs ≡ map Some ys = cc in λ i. some-inj x y first i ∷ map_some-inj xs ys rest i

told-inj : (x y : List ℕ × Meaning) → told x ≡ told y → x ≡ y
told-inj x y e = λ i. (ap (λ (p : List ℕ × Option Meaning). p.0) e i, some-inj x.1 y.1 (ap (λ (p : List ℕ × Option Meaning). p.1) e) i)

map_told-inj : (xs ys : List (List ℕ × Meaning)) → map told xs ≡ map told ys → xs ≡ ys
map_told-inj [] [] e = refl
map_told-inj [] (y ∷ ys) e = absurd (cc)
map_told-inj (x ∷ xs) [] e = absurd (cc)
map_told-inj (x ∷ xs) (y ∷ ys) e =
    let first : told x ≡ told y = cc in
    let rest : map told xs ≡ map told ys = cc in λ i. told-inj x y first i ∷ map_told-inj xs ys rest i

-- the level of a number, with the tree that stands there
pub record StandsAt (ns : List (List ℕ)) (ts : List Meaning) (number : ℕ) (p : Flat) : Type 0 where
  pub tree : Some (tree_of ns ts p) ≡ slice_get ts number
  pub before : IsWithin ns number p

stands-within : (ns : List (List ℕ)) (ts : List Meaning) (number : ℕ) (p : Flat) → StandsAt ns ts number p → number < length ts
stands-within ns ts number p s = slice_get_within ts number (tree_of ns ts p) (sym s.tree)

items-within : (ns : List (List ℕ)) (ts : List Meaning) (number : ℕ) (ks : List ℕ) → StandsAt ns ts number (flat_items ks) → AllByRecursion (λ k. k < length ts) ks
items-within ns ts number ks s = kids_grow number (length ts) ks (let lt = stands-within ns ts number (flat_items ks) s in omega arith) s.before

pub members-within : (ns : List (List ℕ)) (ts : List Meaning) (number : ℕ) (ms : List (ℕ × ℕ)) → StandsAt ns ts number (flat_members ms) → AllByRecursion (IsFieldWithin ns (length ts)) ms
members-within ns ts number ms s = fields_grow ns ns number (length ts) ms (omega arith) (let lt = stands-within ns ts number (flat_members ms) s in omega arith) s.before.0

-- an array's items are looked up one by one
pub items-equal : (ns : List (List ℕ)) (ts : List Meaning) (number : ℕ) (p : Flat) (t : Meaning) (ks : List ℕ) (xs : List Meaning) (r : Bool) → StandsAt ns ts number p → p ≡ flat_items ks → t ≡ items (kids_of xs)
    → IsTrue r ↔ (map (slice_get ts) ks ≡ map Some xs) → IsTrue r ↔ (slice_get ts number ≡ Some t)
items-equal ns ts number p t ks xs r s is_p is_t h =
    let at : StandsAt ns ts number (flat_items ks) = subst (StandsAt ns ts number) is_p s in
    let told = kids-told ts ks (items-within ns ts number ks at) in (
      λ yes. sym at.tree ∙ ap (λ l. Some (items (kids_of l))) (map_some-inj (map (tree_at ts) ks) xs (sym told ∙ h.0 yes)) ∙ ap Some (sym is_t),
      λ e. h.1 (told ∙ ap (map Some) (items-inj (map (tree_at ts) ks) xs (some-inj (items (kids_of (map (tree_at ts) ks))) (items (kids_of xs)) (at.tree ∙ e ∙ ap Some is_t)))),
    )

pub members-equal : (ns : List (List ℕ)) (ts : List Meaning) (number : ℕ) (p : Flat) (t : Meaning) (ms : List (ℕ × ℕ)) (xs : List (List ℕ × Meaning)) (r : Bool) → StandsAt ns ts number p → p ≡ flat_members ms → t ≡ members (fields_of xs)
    → IsTrue r ↔ (map (looked_up ns ts) ms ≡ map told xs) → IsTrue r ↔ (slice_get ts number ≡ Some t)
members-equal ns ts number p t ms xs r s is_p is_t h =
    let at : StandsAt ns ts number (flat_members ms) = subst (StandsAt ns ts number) is_p s in
    let all = fields-told ns ts ms (members-within ns ts number ms at) in (
      λ yes. sym at.tree ∙ ap (λ l. Some (members (fields_of l))) (map_told-inj (map (field_at ns ts) ms) xs (sym all ∙ h.0 yes)) ∙ ap Some (sym is_t),
      λ e. h.1 (all ∙ ap (map told) (members-inj (map (field_at ns ts) ms) xs (some-inj (members (fields_of (map (field_at ns ts) ms))) (members (fields_of xs)) (at.tree ∙ e ∙ ap Some is_t)))),
    )

-- equal lists are equal at each place
same_at : {A B C : Type 0} (f : A → C) (g : B → C) (ks : List A) (xs : List B) (i : ℕ) (a : A) (b : B) → map f ks ≡ map g xs → slice_get ks i ≡ Some a → slice_get xs i ≡ Some b → f a ≡ g b
same_at f g ks xs i a b same at_a at_b =
    some-inj (f a) (g b) (sym (slice_get-map f ks i ∙ ap (option_map f) at_a) ∙ ap (λ l. slice_get l i) same ∙ slice_get-map g xs i ∙ ap (option_map g) at_b)

pub differ_at : {A B C : Type 0} (f : A → C) (g : B → C) (ks : List A) (xs : List B) (i : ℕ) (a : A) (b : B) (r : Bool) → i < length ks → length ks ≡ length xs → a ≡ get_or ks i a → b ≡ get_or xs i b
    → IsTrue r ↔ (f a ≡ g b) → r ≡ false → IsTrue false ↔ (map f ks ≡ map g xs)
differ_at f g ks xs i a b r lt long is_a is_b h other =
    let within : i < length xs = omega arith in (
      λ t. absurd (no_truth t),
      λ same. subst IsTrue other (h.1 (same_at f g ks xs i a b same (slice_get-get_or ks i a lt ∙ ap Some (sym is_a)) (slice_get-get_or xs i b within ∙ ap Some (sym is_b)))),
    )
  where
    no_truth : IsTrue false → ⊥
    no_truth t = cc

-- the copy of a level's items is the tree's
pub items-copied : (ns : List (List ℕ)) (ts : List Meaning) (number : ℕ) (p : Flat) (ks : List ℕ) (xs : List Meaning) → StandsAt ns ts number p → p ≡ flat_items ks
    → map (slice_get ts) ks ≡ map Some xs → slice_get ts number ≡ Some (items (kids_of xs))
items-copied ns ts number p ks xs s is_p h = (items-equal ns ts number p (items (kids_of xs)) ks xs true s is_p refl (λ _. h, λ _. refl)).0 refl

pub members-copied : (ns : List (List ℕ)) (ts : List Meaning) (number : ℕ) (p : Flat) (ms : List (ℕ × ℕ)) (xs : List (List ℕ × Meaning)) → StandsAt ns ts number p → p ≡ flat_members ms
    → map (looked_up ns ts) ms ≡ map told xs → slice_get ts number ≡ Some (members (fields_of xs))
members-copied ns ts number p ms xs s is_p h = (members-equal ns ts number p (members (fields_of xs)) ms xs true s is_p refl (λ _. h, λ _. refl)).0 refl

told-names : (xs : List (List ℕ × Meaning)) → names xs ≡ map (λ (p : List ℕ × Option Meaning). p.0) (map told xs)
told-names [] = refl
told-names (x ∷ xs) = ap (λ l. x.0 ∷ l) (told-names xs)

looked-names : (ns : List (List ℕ)) (ts : List Meaning) (ms : List (ℕ × ℕ)) → map (λ (p : List ℕ × Option Meaning). p.0) (map (looked_up ns ts) ms) ≡ map (name_of ns) ms
looked-names ns ts [] = refl
looked-names ns ts (m ∷ ms) = ap (λ l. name_of ns m ∷ l) (looked-names ns ts ms)

pub copied-sorted : (ns : List (List ℕ)) (ts : List Meaning) (ms : List (ℕ × ℕ)) (xs : List (List ℕ × Meaning)) → map (looked_up ns ts) ms ≡ map told xs
    → IsStrictlySortedBy (slice_cmp nat_cmp) (map (name_of ns) ms) → AreSorted xs
copied-sorted ns ts ms xs h sorted =
    subst (IsStrictlySortedBy (slice_cmp nat_cmp)) (sym (looked-names ns ts ms) ∙ ap (map (λ (p : List ℕ × Option Meaning). p.0)) h ∙ sym (told-names xs)) sorted

-- a search among numbers is one among what they stand for
search_map : {A B : Type 0} (d : A) (f : A → B) (ord : B → Ordering) (ms : List A) (r : Result ℕ ℕ) → IsSearchInRange r (length ms) → IsBinarySearchResult (λ m. ord (f m)) ms r → IsBinarySearchResult ord (map f ms) r
search_map d f ord ms (Ok i) within h = λ e. ap ord (get_or-map f ms i d e within) ∙ h d
search_map d f ord ms (Err i) within h = λ rises.
    let parts = h (λ i j a le lt. subst (λ k. k ≤ ordering_index (ord (f (get_or ms j a)))) (ap (λ b. ordering_index (ord b)) (get_or-map f ms i a (f a) (omega arith)))
    (subst (λ k. ordering_index (ord (get_or (map f ms) i (f a))) ≤ k) (ap (λ b. ordering_index (ord b)) (get_or-map f ms j a (f a) lt)) (rises i j (f a) le (subst (λ n. j < n) (sym (length-map f ms)) lt)))) in (
      λ k e low high. ap ord (get_or-map f ms k d e (omega arith)) ∙ parts.0 k d low high,
      λ k e low high. (let lt : k < length ms = subst (λ n. k < n) (length-map f ms) high in ap ord (get_or-map f ms k d e lt) ∙ parts.1 k d low lt),
    )
  where
    length-map : {A B : Type 0} (f : A → B) (xs : List A) → length (map f xs) ≡ length xs
    length-map f [] = refl
    length-map f (x ∷ xs) = ap suc (length-map f xs)

map-length : {A B : Type 0} (f : A → B) (xs : List A) → length (map f xs) ≡ length xs
map-length f [] = refl
map-length f (x ∷ xs) = ap suc (map-length f xs)

fields-at : (ns : List (List ℕ)) (ts : List Meaning) (name : List ℕ) (ms : List (ℕ × ℕ)) (r : Result ℕ ℕ) → IsSearchInRange r (length ms) → IsBinarySearchResult (λ m. slice_cmp nat_cmp (name_of ns m) name) ms r
    → IsBinarySearchResult (λ (m : List ℕ × Meaning). slice_cmp nat_cmp m.0 name) (map (field_at ns ts) ms) r
fields-at ns ts name ms r within h = search_map (0, 0) (field_at ns ts) (λ (m : List ℕ × Meaning). slice_cmp nat_cmp m.0 name) ms r within h

range-map : {A B : Type 0} (f : A → B) (ms : List A) (r : Result ℕ ℕ) → IsSearchInRange r (length ms) → IsSearchInRange r (length (map f ms))
range-map f ms r within = subst (IsSearchInRange r) (sym (map-length f ms)) within

-- the value of the member at the place that was found
pub member-found : (ns : List (List ℕ)) (ts : List Meaning) (name : List ℕ) (ms : List (ℕ × ℕ)) (i : ℕ) (m : ℕ × ℕ) → IsStrictlySortedBy (slice_cmp nat_cmp) (map (name_of ns) ms) → AllByRecursion (IsFieldWithin ns (length ts)) ms
    → i < length ms → IsBinarySearchResult (λ m. slice_cmp nat_cmp (name_of ns m) name) ms (Ok i) → m ≡ get_or ms i m → slice_get ts m.1 ≡ lookup name (fields_of (map (field_at ns ts) ms))
member-found ns ts name ms i m sorted all within h is =
    let fs = map (field_at ns ts) ms in
    let named : IsNamedAt name fs i = found_at fs name (Ok i) (sorted-labels ns ts ms sorted) (range-map (field_at ns ts) ms (Ok i) within) (fields-at ns ts name ms (Ok i) within h) in
    let found = lookup_found fs name i (field_at ns ts m) (sorted-labels ns ts ms sorted) named in
    slice_get-get_or ts m.1 null (number_within ms i m all within is)
    ∙ ap (λ (f : List ℕ × Meaning). Some f.1) (ap (field_at ns ts) is ∙ sym (get_or-map (field_at ns ts) ms i m (field_at ns ts m) within)) ∙ sym found
  where
    number_within : (ms : List (ℕ × ℕ)) (i : ℕ) (m : ℕ × ℕ) → AllByRecursion (IsFieldWithin ns (length ts)) ms → i < length ms → m ≡ get_or ms i m → m.1 < length ts
    number_within [] i m all lt is = absurd (omega arith)
    number_within (x ∷ ms) zero m all lt is = subst (λ (x : ℕ × ℕ). x.1 < length ts) (sym is) all.0.1
    number_within (x ∷ ms) (suc i) m all lt is = number_within ms i m all.1 (omega arith) is

pub member-number : (ns : List (List ℕ)) (n : ℕ) (ms : List (ℕ × ℕ)) (i : ℕ) (m : ℕ × ℕ) → AllByRecursion (IsFieldWithin ns n) ms → i < length ms → m ≡ get_or ms i m → m.1 < n
member-number ns n [] i m all lt is = absurd (omega arith)
member-number ns n (x ∷ ms) zero m all lt is = subst (λ (x : ℕ × ℕ). x.1 < n) (sym is) all.0.1
member-number ns n (x ∷ ms) (suc i) m all lt is = member-number ns n ms i m all.1 (omega arith) is

pub member-absent : (ns : List (List ℕ)) (ts : List Meaning) (name : List ℕ) (ms : List (ℕ × ℕ)) (i : ℕ) → IsStrictlySortedBy (slice_cmp nat_cmp) (map (name_of ns) ms)
    → i ≤ length ms → IsBinarySearchResult (λ m. slice_cmp nat_cmp (name_of ns m) name) ms (Err i) → lookup name (fields_of (map (field_at ns ts) ms)) ≡ None
member-absent ns ts name ms i sorted within h =
    let fs = map (field_at ns ts) ms in
    lookup_absent fs name i (place_at fs name (Err i) (sorted-labels ns ts ms sorted) (range-map (field_at ns ts) ms (Err i) within) (fields-at ns ts name ms (Err i) within h))

-- the item at an index
pub item-found : (ns : List (List ℕ)) (ts : List Meaning) (number : ℕ) (p : Flat) (ks : List ℕ) (token : List ℕ) (o : Option ℕ) → StandsAt ns ts number p → p ≡ flat_items ks → o ≡ option_and_then (slice_get ks) (index_of token)
    → option_and_then (slice_get ts) o ≡ option_and_then (child_of token) (slice_get ts number)
item-found ns ts number p ks token o s is_p is =
    let at : StandsAt ns ts number (flat_items ks) = subst (StandsAt ns ts number) is_p s in
    ap (option_and_then (slice_get ts)) is ∙ go (index_of token) (items-within ns ts number ks at) ∙ ap (option_and_then (child_of token)) at.tree
  where
    there : (ks : List ℕ) (n : ℕ) → AllByRecursion (λ k. k < length ts) ks → option_and_then (slice_get ts) (slice_get ks n) ≡ slice_get (map (tree_at ts) ks) n
    there [] n all = refl
    there (k ∷ ks) zero all = slice_get-get_or ts k null all.0
    there (k ∷ ks) (suc n) all = there ks n all.1

    go : (o : Option ℕ) → AllByRecursion (λ k. k < length ts) ks → option_and_then (slice_get ts) (option_and_then (slice_get ks) o) ≡ option_and_then (λ n. kid_at n (kids_of (map (tree_at ts) ks))) o
    go None all = refl
    go (Some n) all = there ks n all ∙ sym (kid_at-kids_of (map (tree_at ts) ks) n)

pub item-within : (ns : List (List ℕ)) (ts : List Meaning) (number : ℕ) (p : Flat) (ks : List ℕ) (token : List ℕ) (o : Option ℕ) → StandsAt ns ts number p → p ≡ flat_items ks → o ≡ option_and_then (slice_get ks) (index_of token)
    → IfSome o (λ n. n < length ts)
item-within ns ts number p ks token o s is_p is =
    let at : StandsAt ns ts number (flat_items ks) = subst (StandsAt ns ts number) is_p s in
    subst (λ o. IfSome o (λ n. n < length ts)) (sym is) (go (index_of token) (items-within ns ts number ks at))
  where
    there : (ks : List ℕ) (n : ℕ) → AllByRecursion (λ k. k < length ts) ks → IfSome (slice_get ks n) (λ k. k < length ts)
    there [] n all = tt
    there (k ∷ ks) zero all = all.0
    there (k ∷ ks) (suc n) all = there ks n all.1

    go : (o : Option ℕ) → AllByRecursion (λ k. k < length ts) ks → IfSome (option_and_then (slice_get ks) o) (λ n. n < length ts)
    go None all = tt
    go (Some n) all = there ks n all

-- the value of a member
pub members-found : (ns : List (List ℕ)) (ts : List Meaning) (number : ℕ) (p : Flat) (ms : List (ℕ × ℕ)) (token : List ℕ) (o : Option Meaning) → StandsAt ns ts number p → p ≡ flat_members ms
    → o ≡ lookup token (fields_of (map (field_at ns ts) ms)) → o ≡ option_and_then (child_of token) (slice_get ts number)
members-found ns ts number p ms token o s is_p is =
    let at : StandsAt ns ts number (flat_members ms) = subst (StandsAt ns ts number) is_p s in is ∙ ap (option_and_then (child_of token)) at.tree

pub take-whole : {X : Type 0} (n : ℕ) (xs : List X) → length xs ≤ n → take n xs ≡ xs
take-whole zero [] le = refl
take-whole zero (x ∷ xs) le = absurd (omega arith)
take-whole (suc n) [] le = refl
take-whole (suc n) (x ∷ xs) le = ap (λ l. x ∷ l) (take-whole n xs (omega arith))
