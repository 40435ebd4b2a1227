-- The lines of things with their moments, one after another.
use Rattle.std.proofs.Common.{◌≡◌, ℕ, zero, suc, ◌<◌, min, List, [], ◌∷◌, ◌++◌, length, get_or, take, refl, ap, ap₂, arith}
use Rattle.base_types.specs.declared.kubernetes.revision.Moment.{Moment}
use Rattle.log_moments.specs.Answers.{line_moment, lines_of}
use Rattle.strict_order.specs.declared.thing.Thing.{Thing}

-- one thing more
pub lines_more : (things : List Thing) (moments : List Moment) (n : ℕ) (t : Thing) (m : Moment) → n < length things → n < length moments
    → ((d : Thing) → t ≡ get_or things n d) → ((d : Moment) → m ≡ get_or moments n d)
    → lines_of (take n things) (take n moments) ++ line_moment t m ∷ [] ≡ lines_of (take (suc n) things) (take (suc n) moments)
lines_more [] moments n t m within below is at = absurd (omega (arith, within))
lines_more (x ∷ xs) [] n t m within below is at = absurd (omega (arith, below))
lines_more (x ∷ xs) (y ∷ ys) zero t m within below is at = ap₂ (λ (a : Thing) (b : Moment). line_moment a b ∷ []) (is t) (at m)
lines_more (x ∷ xs) (y ∷ ys) (suc n) t m within below is at = ap (λ l. line_moment x y ∷ l) (lines_more xs ys n t m (omega (arith, within)) (omega (arith, below)) is at)

-- all of them
pub lines_all : (things : List Thing) (moments : List Moment) (n : ℕ) → n ≡ min (length things) (length moments) → lines_of (take n things) (take n moments) ≡ lines_of things moments
lines_all [] moments zero e = refl
lines_all [] moments (suc n) e = absurd (omega (arith, e))
lines_all (x ∷ xs) [] zero e = refl
lines_all (x ∷ xs) [] (suc n) e = absurd (omega (arith, e))
lines_all (x ∷ xs) (y ∷ ys) zero e = absurd (omega (arith, e))
lines_all (x ∷ xs) (y ∷ ys) (suc n) e = ap (λ l. line_moment x y ∷ l) (lines_all xs ys n (omega (arith, e)))
