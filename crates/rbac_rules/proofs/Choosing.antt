-- What `any` answers where its closure decides a fact.
use Rattle.std.proofs.Common.{ℕ, ◌<◌, Bool, true, false, List, [], ◌∷◌, length, Decides, refl, sym, subst, arith}
use Rattle.std.specs.Bool.{MatchBool}
use Rattle.std.specs.List.{Any, AllWithin, HoldsAt}
use Rattle.base_types.proofs.Quantifiers.{Any-at}

any_from_place : {X : Type 0} (P : X → Type 0) (xs : List X) (k : ℕ) → k < length xs → HoldsAt P xs k → Any P xs
any_from_place P [] k within holds = absurd (omega arith)
any_from_place P (x ∷ xs) k within holds = Any-at P (x ∷ xs) k x within (holds x)

-- it is true exactly where some element has P
pub any_decides : {X : Type 0} (P : X → Type 0) (r : Bool) (xs : List X)
    → MatchBool r ((k : ℕ) × (k < length xs) × HoldsAt P xs k) (AllWithin (λ x. P x → ⊥) xs 0 (length xs)) → Decides r (Any P xs)
any_decides P true xs told = (λ is. any_from_place P xs told.0 told.1 told.2, λ any. refl)
any_decides P false xs told = (λ is. absurd (cc), λ any. absurd (told any.0 any.1 (omega arith) any.2 (subst P (sym any.3) any.4)))
