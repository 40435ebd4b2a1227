-- A loop that tells whether something holds of some element.
use Rattle.std.proofs.Common.{◌≡◌, ℕ, ◌+◌, ◌<◌, ◌≤◌, ⊎_elim, List, [], ◌∷◌, length, get_or, take, sym, subst, arith}
use Rattle.std.specs.List.{Any}
use Rattle.std.proofs.lemmas.List.{take_all}
use Rattle.rbac_timeline.proofs.Gathering.{front_more}
use Rattle.clouds.proofs.Quantified.{Any-append_cases, Any-cons_cases}

-- one item more of which it doesn't hold
pub none_more : {X : Type 0} (P : X → Type 0) (xs : List X) (i : ℕ) (x : X) → i < length xs → x ≡ get_or xs i x → (Any P (take i xs) → ⊥) → (P x → ⊥) → Any P (take (i + 1) xs) → ⊥
none_more P xs i x within is before here any = ⊎_elim
    before
    (λ last. ⊎_elim here (λ none. let within = none.2 in absurd (omega arith)) (Any-cons_cases P x [] last))
    (Any-append_cases P (take i xs) (x ∷ []) (subst (λ l. Any P l) (front_more xs i x within is) any))

pub none_all : {X : Type 0} (P : X → Type 0) (xs : List X) (i : ℕ) → length xs ≤ i → (Any P (take i xs) → ⊥) → Any P xs → ⊥
none_all P xs i end none any = none (subst (λ l. Any P l) (sym (take_all i xs end)) any)
