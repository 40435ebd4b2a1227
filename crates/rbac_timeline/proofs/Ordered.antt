-- Lists that are kept in order by a number.
use Rattle.std.proofs.Common.{◌≡◌, ℕ, ◌<◌, ◌≤◌, ⊎_elim, List, length, get_or, ◌∙◌, subst, ap, arith}
use Rattle.std.specs.List.{Contains, insert}
use Rattle.std.specs.List.Sorted.{IsNonDecreasingBy}
use Rattle.std.proofs.lemmas.Bool.{cases_lt, leb-false, leb-true}
use Rattle.std.proofs.lemmas.List.{get_or_default}
use Rattle.std.proofs.lemmas.List.Sorted.{IsNonDecreasingBy-insert}
use Rattle.base_types.proofs.Upto.{Upto}

pub insert_in_order : {X : Type 0} (number : X → ℕ) (xs : List X) (x : X) (n : ℕ) → IsNonDecreasingBy number xs → Upto number (number x) xs n → n ≤ length xs → IsNonDecreasingBy number (insert xs n x)
insert_in_order number xs x n order parts within =
    IsNonDecreasingBy-insert number xs n x order within
    (λ k d before. leb-true _ (number x) (parts.0 k d (omega arith) before))
    (λ k d behind among. let above : number x < number (get_or xs k d) = leb-false _ (number x) (parts.1 k d behind among) in omega arith)

pub all_upto : {X : Type 0} (number : X → ℕ) (xs : List X) (bound n : ℕ) → Upto number bound xs n → length xs ≤ n → (x : X) → Contains xs x → number x ≤ bound
all_upto number xs bound n parts end x among =
    let within : among.0 < length xs = among.1 in
    let below : number (get_or xs among.0 x) ≤ bound = leb-true _ bound (parts.0 among.0 x (omega arith) (omega arith)) in
    subst (λ y. number y ≤ bound) among.2 below

pub first_above : {X : Type 0} (number : X → ℕ) (xs : List X) (bound n : ℕ) (d : X) → Upto number bound xs n → n < length xs → bound < number (get_or xs n d)
first_above number xs bound n d parts within = leb-false _ bound (parts.1 n d (omega arith) within)

pub least_above : {X : Type 0} (number : X → ℕ) (xs : List X) (bound n : ℕ) (d : X) → IsNonDecreasingBy number xs → Upto number bound xs n → n < length xs → (x : X) → Contains xs x → bound < number x
    → number (get_or xs n d) ≤ number x
least_above number xs bound n d order parts within x among above =
    let k : ℕ = among.0 in
    let there : k < length xs = among.1 in
    let is : number (get_or xs k d) ≡ number x = ap number (get_or_default xs k d x there ∙ among.2) in
    ⊎_elim
    (λ (before : k < n). let below : number (get_or xs k d) ≤ bound = leb-true _ bound (parts.0 k d (omega arith) before) in absurd (omega arith))
    (λ (behind : n ≤ k). ⊎_elim
    (λ (less : n < k). let up : number (get_or xs n d) ≤ number (get_or xs k d) = order n k d (omega arith) there in omega arith)
    (λ (upto : k ≤ n). let same : n ≡ k = omega arith in let equal : number (get_or xs n d) ≡ number (get_or xs k d) = ap (λ i. number (get_or xs i d)) same in omega arith)
    (cases_lt n k))
    (cases_lt k n)
