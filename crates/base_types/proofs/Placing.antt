-- Members with one put in or taken out at the position that a search finds.
use Rattle.std.proofs.Common.{◌≡◌, ℕ, zero, suc, true, List, [], ◌∷◌, ◌++◌, get_or, set, take, drop, Some, refl, sym, ap, subst, ◌∙◌, arith, bytes_eq}
use Rattle.std.specs.Prelude.{remove}
use Rattle.std.specs.Ordering.{nat_cmp, ordering_reverse}
use Rattle.std.specs.declared.cmp.Ordering.TheVariants.{Less, Equal, Greater}
use Rattle.std.specs.Cmp.Lexicographic.{slice_cmp, nat_list_cmp_total}
use Rattle.std.proofs.lemmas.Cmp.{tied_itself}
use Rattle.std.specs.List.{AllByRecursion}
use Rattle.std.specs.List.Sorted.{IsStrictlySortedBy}
use Rattle.base_types.specs.Edits.{put}
use Rattle.base_types.specs.Meaning.{Meaning, field, fields_of}
use Rattle.base_types.specs.Names.{names, AreSorted}
use Rattle.base_types.specs.Parts.{lookup}
use Rattle.base_types.specs.Search.{IsNamedAt, IsPlaceFor}
use Rattle.base_types.specs.Stored.{fields_without}
use Rattle.base_types.proofs.Ordered.{all_at, bytes_eq-Less, bytes_eq-Greater, bytes_eq-self, lookup_found}
use Rattle.base_types.proofs.Removing.{found_name}

pub above-below : (a b : List ℕ) → slice_cmp nat_cmp a b ≡ Less → slice_cmp nat_cmp b a ≡ Greater
above-below a b p = nat_list_cmp_total.antisymm b a ∙ ap ordering_reverse p

pub below-above : (a b : List ℕ) → slice_cmp nat_cmp a b ≡ Greater → slice_cmp nat_cmp b a ≡ Less
below-above a b p = nat_list_cmp_total.antisymm b a ∙ ap ordering_reverse p

pub same-itself : (a : List ℕ) → slice_cmp nat_cmp a a ≡ Equal
same-itself a = tied_itself nat_list_cmp_total a

pub put_found : (name : List ℕ) (t : Meaning) (ms : List (List ℕ × Meaning)) (at : ℕ) → AreSorted ms → IsNamedAt name ms at → put name t (fields_of ms) ≡ fields_of (set ms at (name, t))
unfolding IsStrictlySortedBy
put_found name t [] at s e = absurd (cc)
put_found name t (m ∷ ms) zero s e =
    let same : m.0 ≡ name = cc in
    let tied : slice_cmp nat_cmp name m.0 ≡ Equal = subst (λ n. slice_cmp nat_cmp name n ≡ Equal) (sym same) (same-itself name) in
    rw tied refl
put_found name t (m ∷ ms) (suc at) s e =
    let below : slice_cmp nat_cmp m.0 name ≡ Less = all_at (λ n. slice_cmp nat_cmp m.0 n ≡ Less) (names ms) at name s.0 e in
    rw (above-below m.0 name below) (ap (field m.0 m.1) (put_found name t ms at s.1 e))

pub put_absent : (name : List ℕ) (t : Meaning) (ms : List (List ℕ × Meaning)) (at : ℕ) → IsPlaceFor name ms at → put name t (fields_of ms) ≡ fields_of (take at ms ++ (name, t) ∷ drop at ms)
put_absent name t [] zero h = refl
put_absent name t [] (suc at) h = let w = h.within in absurd (omega arith)
put_absent name t (m ∷ ms) zero h = rw (below-above m.0 name h.after.0) refl
put_absent name t (m ∷ ms) (suc at) h =
    rw (above-below m.0 name h.before.0) (ap (field m.0 m.1) (put_absent name t ms at (record { within = let w = h.within in omega arith; before = h.before.1; after = h.after })))

all_flipped : (name : List ℕ) (ks : List (List ℕ)) → AllByRecursion (λ k. slice_cmp nat_cmp k name ≡ Greater) ks → AllByRecursion (λ k. slice_cmp nat_cmp name k ≡ Less) ks
all_flipped name [] h = tt
all_flipped name (k ∷ ks) h = (below-above k name h.0, all_flipped name ks h.1)

all_inserted : (P : List ℕ → Type 0) (name : List ℕ) (t : Meaning) (ms : List (List ℕ × Meaning)) (at : ℕ) → P name → AllByRecursion P (names ms) → AllByRecursion P (names (take at ms ++ (name, t) ∷ drop at ms))
all_inserted P name t [] zero here all = (here, tt)
all_inserted P name t [] (suc at) here all = (here, tt)
all_inserted P name t (m ∷ ms) zero here all = (here, all)
all_inserted P name t (m ∷ ms) (suc at) here all = (all.0, all_inserted P name t ms at here all.1)

pub sorted_inserted : (name : List ℕ) (t : Meaning) (ms : List (List ℕ × Meaning)) (at : ℕ) → AreSorted ms → IsPlaceFor name ms at → AreSorted (take at ms ++ (name, t) ∷ drop at ms)
unfolding IsStrictlySortedBy
sorted_inserted name t [] zero s h = (tt, tt)
sorted_inserted name t [] (suc at) s h = (tt, tt)
sorted_inserted name t (m ∷ ms) zero s h = (all_flipped name (names (m ∷ ms)) h.after, s)
sorted_inserted name t (m ∷ ms) (suc at) s h =
    (all_inserted (λ k. slice_cmp nat_cmp m.0 k ≡ Less) name t ms at h.before.0 s.0, sorted_inserted name t ms at s.1 (record { within = let w = h.within in omega arith; before = h.before.1; after = h.after }))

without_below : (name : List ℕ) (ms : List (List ℕ × Meaning)) → AllByRecursion (λ k. slice_cmp nat_cmp name k ≡ Less) (names ms) → fields_without name (fields_of ms) ≡ fields_of ms
without_below name [] h = refl
without_below name (m ∷ ms) h = rw (bytes_eq-Greater m.0 name (above-below name m.0 h.0)) (ap (field m.0 m.1) (without_below name ms h.1))

pub without_absent : (name : List ℕ) (ms : List (List ℕ × Meaning)) (at : ℕ) → IsPlaceFor name ms at → fields_without name (fields_of ms) ≡ fields_of ms
without_absent name ms zero h = without_below name ms (all_flipped name (names ms) h.after)
without_absent name [] (suc at) h = refl
without_absent name (m ∷ ms) (suc at) h =
    rw (bytes_eq-Less m.0 name h.before.0) (ap (field m.0 m.1) (without_absent name ms at (record { within = let w = h.within in omega arith; before = h.before.1; after = h.after })))

pub without_found : (name : List ℕ) (ms : List (List ℕ × Meaning)) (at : ℕ) → AreSorted ms → IsNamedAt name ms at → fields_without name (fields_of ms) ≡ fields_of (remove ms at)
unfolding IsStrictlySortedBy
without_found name [] at s e = absurd (cc)
without_found name (m ∷ ms) zero s e =
    let same : m.0 ≡ name = cc in
    let yes : bytes_eq m.0 name ≡ true = subst (λ n. bytes_eq m.0 n ≡ true) same (bytes_eq-self m.0) in
    rw yes (without_below name ms (subst (λ n. AllByRecursion (λ k. slice_cmp nat_cmp n k ≡ Less) (names ms)) same s.0))
without_found name (m ∷ ms) (suc at) s e =
    let below : slice_cmp nat_cmp m.0 name ≡ Less = all_at (λ n. slice_cmp nat_cmp m.0 n ≡ Less) (names ms) at name s.0 e in
    rw (bytes_eq-Less m.0 name below) (ap (field m.0 m.1) (without_found name ms at s.1 e))

all_fewer : (P : List ℕ → Type 0) (ms : List (List ℕ × Meaning)) (at : ℕ) → AllByRecursion P (names ms) → AllByRecursion P (names (remove ms at))
all_fewer P [] zero all = tt
all_fewer P [] (suc at) all = tt
all_fewer P (m ∷ ms) zero all = all.1
all_fewer P (m ∷ ms) (suc at) all = (all.0, all_fewer P ms at all.1)

pub sorted_removed : (ms : List (List ℕ × Meaning)) (at : ℕ) → AreSorted ms → AreSorted (remove ms at)
unfolding IsStrictlySortedBy
sorted_removed [] zero s = tt
sorted_removed [] (suc at) s = tt
sorted_removed (m ∷ ms) zero s = s.1
sorted_removed (m ∷ ms) (suc at) s = (all_fewer (λ k. slice_cmp nat_cmp m.0 k ≡ Less) ms at s.0, sorted_removed ms at s.1)

-- the same at the member that was read there
pub put_changed : (name : List ℕ) (ms : List (List ℕ × Meaning)) (at : ℕ) (m : List ℕ × Meaning) (t u : Meaning) → AreSorted ms → IsNamedAt name ms at → m ≡ get_or ms at m → u ≡ t
    → fields_of (set ms at (m.0, u)) ≡ put name t (fields_of ms)
put_changed name ms at m t u s e read changed =
    let same = found_name name ms at m e read in
    ap (λ x. fields_of (set ms at x)) (λ i. (same i, changed i)) ∙ sym (put_found name t ms at s e)

pub lookup_changed : (name : List ℕ) (ms : List (List ℕ × Meaning)) (at : ℕ) (m : List ℕ × Meaning) (t : Meaning) → AreSorted ms → IsNamedAt name ms at → m ≡ get_or ms at m → t ≡ m.1
    → Some t ≡ lookup name (fields_of ms)
lookup_changed name ms at m t s e read taken = ap Some (taken ∙ ap (λ x. x.1) read) ∙ sym (lookup_found ms name at m s e)
