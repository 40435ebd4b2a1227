-- Members in the order of their names, and the search among them.
use Rattle.std.proofs.Common.{◌≡◌, ℕ, zero, suc, ◌+◌, ◌<◌, ◌≤◌, true, false, List, [], ◌∷◌, length, get_or, take, drop, Some, None, Result, Ok, Err, IfOk, IfErr, refl, sym, ap, subst, ◌∙◌, arith, bytes_eq, slice_get}
use Rattle.std.specs.Ordering.{nat_cmp, is_eq, is_lt, ordering_reverse, ordering_index}
use Rattle.std.specs.declared.cmp.Ordering.{Ordering}
use Rattle.std.specs.declared.cmp.Ordering.TheVariants.{Less, Equal, Greater}
use Rattle.std.specs.Cmp.Lexicographic.{slice_cmp, nat_list_cmp_total}
use Rattle.std.specs.List.{AllByRecursion}
use Rattle.std.specs.List.Sorted.{IsStrictlySortedBy, IsBinarySearchResult, IsSearchInRange, IsNonDecreasingBy}
use Rattle.std.proofs.lemmas.List.Sorted.{searchable_from_sorted}
use Rattle.std.proofs.lemmas.Map.Text.{is_eq-slice_cmp}
use Rattle.std.proofs.lemmas.Slice.Eq.{bytes_eq-Decides}
use Rattle.base_types.specs.Meaning.{Meaning, fields_of}
use Rattle.base_types.specs.Names.{names, AreSorted}
use Rattle.base_types.specs.Parts.{lookup}
use Rattle.base_types.specs.Search.{IsNamedAt, IsPlaceFor}

-- the comparison and the test of two names agree
pub bytes_eq-Less : (a b : List ℕ) → slice_cmp nat_cmp a b ≡ Less → bytes_eq a b ≡ false
bytes_eq-Less a b p = sym (is_eq-slice_cmp a b) ∙ ap is_eq p

pub bytes_eq-Greater : (a b : List ℕ) → slice_cmp nat_cmp a b ≡ Greater → bytes_eq a b ≡ false
bytes_eq-Greater a b p = sym (is_eq-slice_cmp a b) ∙ ap is_eq p

pub bytes_eq-self : (a : List ℕ) → bytes_eq a a ≡ true
bytes_eq-self a = (bytes_eq-Decides a a).1 refl

pub same_name : (a b : List ℕ) → slice_cmp nat_cmp a b ≡ Equal → a ≡ b
same_name a b p = (bytes_eq-Decides a b).0 (sym (is_eq-slice_cmp a b) ∙ ap is_eq p)

sorted_at : (ms : List (List ℕ × Meaning)) → AreSorted ms → (k : ℕ) (d : List ℕ × Meaning) → k + 1 < length ms
    → is_lt (slice_cmp nat_cmp (get_or ms (k + 1) d).0 (get_or ms k d).0) ≡ false
unfolding IsStrictlySortedBy
sorted_at [] s k d lt = absurd (omega arith)
sorted_at (m ∷ []) s k d lt = absurd (omega arith)
sorted_at (m ∷ n ∷ ms) s zero d lt = ap is_lt (nat_list_cmp_total.antisymm n.0 m.0 ∙ ap ordering_reverse s.0.0)
sorted_at (m ∷ n ∷ ms) s (suc k) d lt =
    let e : suc k + 1 ≡ suc (k + 1) = omega arith in
    rw e (sorted_at (n ∷ ms) s.1 k d (omega arith))

-- what a binary search asks of the members
pub searchable : (ms : List (List ℕ × Meaning)) (name : List ℕ) → AreSorted ms
    → IsNonDecreasingBy (λ (m : List ℕ × Meaning). ordering_index (slice_cmp nat_cmp m.0 name)) ms
searchable ms name s = searchable_from_sorted nat_list_cmp_total (λ (m : List ℕ × Meaning). m.0) ms name (λ k d low lt. sorted_at ms s k d lt)

pub names_at : (ms : List (List ℕ × Meaning)) (at : ℕ) (d : List ℕ × Meaning) → at < length ms → slice_get (names ms) at ≡ Some (get_or ms at d).0
names_at [] at d lt = absurd (omega arith)
names_at (m ∷ ms) zero d lt = refl
names_at (m ∷ ms) (suc at) d lt = names_at ms at d (omega arith)

all_before : (name : List ℕ) (o : Ordering) (ms : List (List ℕ × Meaning)) (at : ℕ)
    → ((k : ℕ) (d : List ℕ × Meaning) → k < at → slice_cmp nat_cmp (get_or ms k d).0 name ≡ o) → at ≤ length ms
    → AllByRecursion (λ k. slice_cmp nat_cmp k name ≡ o) (names (take at ms))
all_before name o ms zero h le = tt
all_before name o [] (suc at) h le = absurd (omega arith)
all_before name o (m ∷ ms) (suc at) h le = (h 0 m (omega arith), all_before name o ms at (λ k d lt. h (suc k) d (omega arith)) (omega arith))

all_after : (name : List ℕ) (o : Ordering) (ms : List (List ℕ × Meaning)) (at : ℕ)
    → ((k : ℕ) (d : List ℕ × Meaning) → at ≤ k → k < length ms → slice_cmp nat_cmp (get_or ms k d).0 name ≡ o)
    → AllByRecursion (λ k. slice_cmp nat_cmp k name ≡ o) (names (drop at ms))
all_after name o [] zero h = tt
all_after name o [] (suc at) h = tt
all_after name o (m ∷ ms) zero h = (h 0 m (omega arith) (omega arith), all_after name o ms zero (λ k d le lt. h (suc k) d (omega arith) (omega arith)))
all_after name o (m ∷ ms) (suc at) h = all_after name o ms at (λ k d le lt. h (suc k) d (omega arith) (omega arith))

pub found_at : (ms : List (List ℕ × Meaning)) (name : List ℕ) (r : Result ℕ ℕ) → AreSorted ms → IsSearchInRange r (length ms)
    → IsBinarySearchResult (λ (m : List ℕ × Meaning). slice_cmp nat_cmp m.0 name) ms r → IfOk r (IsNamedAt name ms)
found_at ms name (Err at) s within h = tt
found_at [] name (Ok at) s within h = absurd (omega arith)
found_at (m ∷ ms) name (Ok at) s within h = names_at (m ∷ ms) at m within ∙ ap Some (same_name (get_or (m ∷ ms) at m).0 name (h m))

pub place_at : (ms : List (List ℕ × Meaning)) (name : List ℕ) (r : Result ℕ ℕ) → AreSorted ms → IsSearchInRange r (length ms)
    → IsBinarySearchResult (λ (m : List ℕ × Meaning). slice_cmp nat_cmp m.0 name) ms r → IfErr r (IsPlaceFor name ms)
place_at ms name (Ok at) s within h = tt
place_at ms name (Err at) s within h =
    let parts = h (searchable ms name s) in record {
      within = within;
      before = all_before name Less ms at (λ k d lt. parts.0 k d (omega arith) lt) within;
      after = all_after name Greater ms at (λ k d le lt. parts.1 k d le lt);
    }

pub all_at : (P : List ℕ → Type 0) (ks : List (List ℕ)) (at : ℕ) (k : List ℕ) → AllByRecursion P ks → slice_get ks at ≡ Some k → P k
all_at P [] at k all e = absurd (cc)
all_at P (x ∷ xs) zero k all e = let same : x ≡ k = cc in subst P same all.0
all_at P (x ∷ xs) (suc at) k all e = all_at P xs at k all.1 e

-- the member that is found is the one that a look-up gives
pub lookup_found : (ms : List (List ℕ × Meaning)) (name : List ℕ) (at : ℕ) (d : List ℕ × Meaning) → AreSorted ms → IsNamedAt name ms at
    → lookup name (fields_of ms) ≡ Some (get_or ms at d).1
unfolding IsStrictlySortedBy
lookup_found [] name at d s e = absurd (cc)
lookup_found (m ∷ ms) name zero d s e =
    let same : m.0 ≡ name = cc in
    let yes : bytes_eq m.0 name ≡ true = subst (λ n. bytes_eq m.0 n ≡ true) same (bytes_eq-self m.0) in
    rw yes refl
lookup_found (m ∷ ms) name (suc at) d s e =
    let below : slice_cmp nat_cmp m.0 name ≡ Less = all_at (λ n. slice_cmp nat_cmp m.0 n ≡ Less) (names ms) at name s.0 e in
    rw (bytes_eq-Less m.0 name below) (lookup_found ms name at d s.1 e)

lookup_above : (ms : List (List ℕ × Meaning)) (name : List ℕ) → AllByRecursion (λ k. slice_cmp nat_cmp k name ≡ Greater) (names ms) → lookup name (fields_of ms) ≡ None
lookup_above [] name h = refl
lookup_above (m ∷ ms) name h = rw (bytes_eq-Greater m.0 name h.0) (lookup_above ms name h.1)

pub lookup_absent : (ms : List (List ℕ × Meaning)) (name : List ℕ) (at : ℕ) → IsPlaceFor name ms at → lookup name (fields_of ms) ≡ None
lookup_absent ms name zero h = lookup_above ms name h.after
lookup_absent [] name (suc at) h = refl
lookup_absent (m ∷ ms) name (suc at) h =
    rw (bytes_eq-Less m.0 name h.before.0) (lookup_absent ms name at (record { within = let w = h.within in omega arith; before = h.before.1; after = h.after }))

names_length : (ms : List (List ℕ × Meaning)) → length (names ms) ≡ length ms
names_length [] = refl
names_length (m ∷ ms) = ap suc (names_length ms)

pub named_within : (ms : List (List ℕ × Meaning)) (name : List ℕ) (at : ℕ) → IsNamedAt name ms at → at < length ms
named_within [] name at e = absurd (cc)
named_within (m ∷ ms) name zero e = omega arith
named_within (m ∷ ms) name (suc at) e = let lt = named_within ms name at e in omega arith
