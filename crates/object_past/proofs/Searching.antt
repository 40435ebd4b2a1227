-- Lists that are kept in order by a number, and what is found in them.
use Rattle.std.proofs.Common.{◌≡◌, ◌≢◌, ℕ, ◌-◌, ◌<◌, ◌≤◌, ⊎_elim, Bool, true, eqb, Option, Some, None, List, length, get_or, refl, sym, ◌∙◌, subst, arith}
use Rattle.std.specs.List.{AllPairs, Contains, find}
use Rattle.std.specs.List.Sorted.{IsNonDecreasingBy}
use Rattle.std.proofs.lemmas.Bool.{cases_lt, eqb-true, eq-eqb}
use Rattle.base_types.proofs.Upto.{Upto, last_upto, greatest_upto}
use Rattle.history_model.proofs.Members.{apart}
use Rattle.history_model.proofs.WordLemmas.{found_in, find_is}

-- none has the number, where the last one up to it hasn't
pub unnumbered : {X : Type 0} (number : X → ℕ) (xs : List X) (bound n : ℕ) (d : X) → IsNonDecreasingBy number xs → Upto number bound xs n → 0 < n → n ≤ length xs
    → number (get_or xs (n - 1) d) ≢ bound → (x : X) → Contains xs x → number x ≢ bound
unnumbered number xs bound n d order parts some within differs x among is =
    let up : number x ≤ number (get_or xs (n - 1) d) = greatest_upto number xs bound n d order parts some within x among (omega arith) in
    let upto : number (get_or xs (n - 1) d) ≤ bound = last_upto number xs bound n d parts some within in
    let same : number (get_or xs (n - 1) d) ≡ bound = omega arith in
    differs same

pub in_order : {X : Type 0} (number : X → ℕ) (xs : List X) → AllPairs (λ a b. number a < number b) xs → IsNonDecreasingBy number xs
in_order number xs rising = λ i j d upto within. ⊎_elim
    (λ (less : i < j). let up : number (get_or xs i d) < number (get_or xs j d) = rising i j d less within in omega arith)
    (λ (same : j ≤ i). let is : i ≡ j = omega arith in subst (λ k. number (get_or xs i d) ≤ number (get_or xs k d)) is (omega arith))
    (cases_lt i j)

-- nothing passes
pub find_none : {X : Type 0} (test : X → Bool) (xs : List X) → ((x : X) → Contains xs x → test x ≡ true → ⊥) → find test xs ≡ None
find_none {X} test xs none = go (find test xs) refl
  where
    go : (found : Option X) → find test xs ≡ found → find test xs ≡ None
    go None is = is
    go (Some x) is = let f = found_in test xs x is in absurd (none x f.0 f.1)

abbrev pub has : {X : Type 0} → (X → ℕ) → ℕ → X → Bool
has number wanted x = eqb (number x) wanted

pub number_none : {X : Type 0} (number : X → ℕ) (xs : List X) (wanted : ℕ) → ((x : X) → Contains xs x → number x ≢ wanted) → find (has number wanted) xs ≡ None
number_none number xs wanted none = find_none (has number wanted) xs (λ x among passes. none x among (eqb-true (number x) wanted passes))

pub number_found : {X : Type 0} (number : X → ℕ) (xs : List X) (wanted : ℕ) (x : X) → AllPairs (λ a b. number a < number b) xs → Contains xs x → number x ≡ wanted
    → find (has number wanted) xs ≡ Some x
number_found number xs wanted x rising among is = find_is (has number wanted) xs x among (eq-eqb (number x) wanted is)
    (λ y there passes. apart number xs y x rising there among (eqb-true (number y) wanted passes ∙ sym is))
