-- Lists that are kept in order by a number, cut at a bound.
use Rattle.std.proofs.Common.{◌≡◌, ℕ, ◌-◌, ◌<◌, ◌≤◌, ⊎_elim, true, false, leb, List, length, get_or, ◌∙◌, subst, ap, arith}
use Rattle.std.specs.List.{Contains}
use Rattle.std.specs.List.Sorted.{IsNonDecreasingBy, IsPartitionPoint}
use Rattle.std.proofs.lemmas.Bool.{cases_lt, leb-false, leb-true}
use Rattle.std.proofs.lemmas.List.{get_or_default}

-- those in front of the place have numbers up to the bound, and the others are above it
abbrev pub Upto : {X : Type 0} → (X → ℕ) → ℕ → List X → ℕ → Type 0
Upto number bound xs place = IsPartitionPoint (λ x. leb (number x) bound ≡ true) (λ x. leb (number x) bound ≡ false) xs place

pub none_upto : {X : Type 0} (number : X → ℕ) (xs : List X) (bound n : ℕ) → Upto number bound xs n → n ≡ 0 → (x : X) → Contains xs x → bound < number x
none_upto number xs bound n parts none x among =
    let above : bound < number (get_or xs among.0 x) = leb-false _ bound (parts.1 among.0 x (omega arith) among.1) in
    subst (λ y. bound < number y) among.2 above

pub last_upto : {X : Type 0} (number : X → ℕ) (xs : List X) (bound n : ℕ) (d : X) → Upto number bound xs n → 0 < n → n ≤ length xs → number (get_or xs (n - 1) d) ≤ bound
last_upto number xs bound n d parts some within = leb-true _ bound (parts.0 (n - 1) d (omega arith) (omega arith))

pub greatest_upto : {X : Type 0} (number : X → ℕ) (xs : List X) (bound n : ℕ) (d : X) → IsNonDecreasingBy number xs → Upto number bound xs n → 0 < n → n ≤ length xs
    → (x : X) → Contains xs x → number x ≤ bound → number x ≤ number (get_or xs (n - 1) d)
greatest_upto number xs bound n d order parts some within x among upto = ⊎_elim
    (λ (before : among.0 < n).
    let up : number (get_or xs among.0 d) ≤ number (get_or xs (n - 1) d) = order among.0 (n - 1) d (omega arith) (omega arith) in
    subst (λ y. number y ≤ number (get_or xs (n - 1) d)) (get_or_default xs among.0 d x among.1 ∙ among.2) up)
    (λ (behind : n ≤ among.0).
    let above : bound < number (get_or xs among.0 x) = leb-false _ bound (parts.1 among.0 x behind among.1) in
    let same : number (get_or xs among.0 x) ≡ number x = ap number among.2 in
    absurd (omega arith))
    (cases_lt among.0 n)
