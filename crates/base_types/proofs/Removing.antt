-- A tree without some members, or with the value of one changed.
use Rattle.std.proofs.Common.{◌≡◌, ℕ, zero, suc, Bool, true, false, not, cond, List, [], ◌∷◌, get_or, set, Some, refl, sym, ap, subst, ◌∙◌, filter, bytes_eq, slice_get, arith}
use Rattle.std.specs.Ordering.{nat_cmp, ordering_reverse}
use Rattle.std.specs.declared.cmp.Ordering.TheVariants.{Less, Greater}
use Rattle.std.specs.Cmp.Lexicographic.{slice_cmp, nat_list_cmp_total}
use Rattle.std.specs.List.{AllByRecursion}
use Rattle.std.specs.List.Sorted.{IsStrictlySortedBy}
use Rattle.std.proofs.lemmas.List.Kept.{IsStrictlySortedBy-filter}
use Rattle.base_types.specs.Meaning.{Meaning, field, fields_of}
use Rattle.base_types.specs.Names.{names, AreSorted}
use Rattle.base_types.specs.Search.{IsNamedAt, IsPlaceFor}
use Rattle.base_types.specs.Stored.{is_other, fields_without, fields_with}
use Rattle.base_types.proofs.Ordered.{all_at, bytes_eq-Less, bytes_eq-Greater, bytes_eq-self, names_at, named_within}

names-filter : (name : List ℕ) (ms : List (List ℕ × Meaning)) → names (filter (is_other name) ms) ≡ filter (λ k. not (bytes_eq k name)) (names ms)
names-filter name [] = refl
names-filter name (m ∷ ms) = go (bytes_eq m.0 name) (names-filter name ms)
  where
    go : (b : Bool) → names (filter (is_other name) ms) ≡ filter (λ k. not (bytes_eq k name)) (names ms)
        → names (cond (not b) (m ∷ filter (is_other name) ms) (filter (is_other name) ms)) ≡ cond (not b) (m.0 ∷ filter (λ k. not (bytes_eq k name)) (names ms)) (filter (λ k. not (bytes_eq k name)) (names ms))
    go true rest = rest
    go false rest = ap (λ ks. m.0 ∷ ks) rest

pub sorted_others : (name : List ℕ) (ms : List (List ℕ × Meaning)) → AreSorted ms → AreSorted (filter (is_other name) ms)
sorted_others name ms s = subst (IsStrictlySortedBy (slice_cmp nat_cmp)) (sym (names-filter name ms)) (IsStrictlySortedBy-filter (slice_cmp nat_cmp) (λ k. not (bytes_eq k name)) (names ms) s)

pub fields_of-filter : (name : List ℕ) (ms : List (List ℕ × Meaning)) → fields_of (filter (is_other name) ms) ≡ fields_without name (fields_of ms)
fields_of-filter name [] = refl
fields_of-filter name (m ∷ ms) = go (bytes_eq m.0 name) (fields_of-filter name ms)
  where
    go : (b : Bool) → fields_of (filter (is_other name) ms) ≡ fields_without name (fields_of ms)
        → fields_of (cond (not b) (m ∷ filter (is_other name) ms) (filter (is_other name) ms)) ≡ cond b (fields_without name (fields_of ms)) (field m.0 m.1 (fields_without name (fields_of ms)))
    go true rest = rest
    go false rest = ap (field m.0 m.1) rest

-- a value in place of another leaves the names as they are
pub names-set : (ms : List (List ℕ × Meaning)) (at : ℕ) (k : List ℕ) (t : Meaning) → slice_get (names ms) at ≡ Some k → names (set ms at (k, t)) ≡ names ms
names-set [] at k t e = refl
names-set (m ∷ ms) zero k t e = let same : k ≡ m.0 = cc in ap (λ n. n ∷ names ms) same
names-set (m ∷ ms) (suc at) k t e = ap (λ ns. m.0 ∷ ns) (names-set ms at k t e)

pub sorted-set : (ms : List (List ℕ × Meaning)) (at : ℕ) (k : List ℕ) (t : Meaning) → slice_get (names ms) at ≡ Some k → AreSorted ms → AreSorted (set ms at (k, t))
sorted-set ms at k t e s = subst (IsStrictlySortedBy (slice_cmp nat_cmp)) (sym (names-set ms at k t e)) s

-- where no member has the name, none is changed
with_above : (name : List ℕ) (change : Meaning → Meaning) (ms : List (List ℕ × Meaning)) → AllByRecursion (λ k. slice_cmp nat_cmp k name ≡ Greater) (names ms) → fields_with name change (fields_of ms) ≡ fields_of ms
with_above name change [] h = refl
with_above name change (m ∷ ms) h = rw (bytes_eq-Greater m.0 name h.0) (ap (field m.0 m.1) (with_above name change ms h.1))

with_below : (name : List ℕ) (change : Meaning → Meaning) (ms : List (List ℕ × Meaning)) → AllByRecursion (λ k. slice_cmp nat_cmp name k ≡ Less) (names ms) → fields_with name change (fields_of ms) ≡ fields_of ms
with_below name change [] h = refl
with_below name change (m ∷ ms) h = rw (unlike m.0 h.0) (ap (field m.0 m.1) (with_below name change ms h.1))
  where
    unlike : (k : List ℕ) → slice_cmp nat_cmp name k ≡ Less → bytes_eq k name ≡ false
    unlike k p = bytes_eq-Greater k name (nat_list_cmp_total.antisymm k name ∙ ap ordering_reverse p)

pub with_absent : (name : List ℕ) (change : Meaning → Meaning) (ms : List (List ℕ × Meaning)) (at : ℕ) → IsPlaceFor name ms at → fields_with name change (fields_of ms) ≡ fields_of ms
with_absent name change ms zero h = with_above name change ms h.after
with_absent name change [] (suc at) h = refl
with_absent name change (m ∷ ms) (suc at) h =
    rw (bytes_eq-Less m.0 name h.before.0) (ap (field m.0 m.1) (with_absent name change ms at (record { within = let w = h.within in omega arith; before = h.before.1; after = h.after })))

pub with_found : (name : List ℕ) (change : Meaning → Meaning) (ms : List (List ℕ × Meaning)) (at : ℕ) (d : List ℕ × Meaning) → AreSorted ms → IsNamedAt name ms at
    → fields_with name change (fields_of ms) ≡ fields_of (set ms at (name, change (get_or ms at d).1))
unfolding IsStrictlySortedBy
with_found name change [] at d s e = absurd (cc)
with_found name change (m ∷ ms) zero d s e =
    let same : m.0 ≡ name = cc in
    let yes : bytes_eq m.0 name ≡ true = subst (λ n. bytes_eq m.0 n ≡ true) same (bytes_eq-self m.0) in
    let below = subst (λ n. AllByRecursion (λ k. slice_cmp nat_cmp n k ≡ Less) (names ms)) same s.0 in
    rw (yes, with_below name change ms below, same) refl
with_found name change (m ∷ ms) (suc at) d s e =
    let below : slice_cmp nat_cmp m.0 name ≡ Less = all_at (λ n. slice_cmp nat_cmp m.0 n ≡ Less) (names ms) at name s.0 e in
    rw (bytes_eq-Less m.0 name below) (ap (field m.0 m.1) (with_found name change ms at d s.1 e))

-- the member that is found has the name
pub found_name : (name : List ℕ) (ms : List (List ℕ × Meaning)) (at : ℕ) (m : List ℕ × Meaning) → IsNamedAt name ms at → m ≡ get_or ms at m → m.0 ≡ name
found_name name ms at m e read =
    let here : slice_get (names ms) at ≡ Some (get_or ms at m).0 = names_at ms at m (named_within ms name at e) in
    let same : (get_or ms at m).0 ≡ name = cc in
    ap (λ x. x.0) read ∙ same

pub sorted_changed : (name : List ℕ) (ms : List (List ℕ × Meaning)) (at : ℕ) (m : List ℕ × Meaning) (t : Meaning) → AreSorted ms → IsNamedAt name ms at → m ≡ get_or ms at m
    → AreSorted (set ms at (m.0, t))
sorted_changed name ms at m t s e read =
    let same = found_name name ms at m e read in
    sorted-set ms at m.0 t (e ∙ ap Some (sym same)) s

pub fields_changed : (name : List ℕ) (change : Meaning → Meaning) (ms : List (List ℕ × Meaning)) (at : ℕ) (m : List ℕ × Meaning) (t : Meaning) → AreSorted ms → IsNamedAt name ms at → m ≡ get_or ms at m
    → t ≡ change m.1 → fields_of (set ms at (m.0, t)) ≡ fields_with name change (fields_of ms)
fields_changed name change ms at m t s e read changed =
    let same = found_name name ms at m e read in
    ap (λ x. fields_of (set ms at x)) (λ i. (same i, (changed ∙ ap (λ x. change x.1) read) i)) ∙ sym (with_found name change ms at m s e)
