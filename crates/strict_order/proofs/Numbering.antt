-- Things in an order get the least numbers that don't fall.
use Rattle.std.proofs.Common.{◌≡◌, ℕ, ◌≤◌, ◌≤ℤ◌, List, [], ◌∷◌, map, max, All, refl, ap, arith}
use Rattle.std.proofs.lemmas.List.Elements.{All-cons, All-head, All-nil, All-tail, All-weaker}
use Rattle.base_types.specs.declared.kubernetes.revision.Moment.{Moment}
use Rattle.strict_order.specs.declared.thing.Thing.{Thing}
use Rattle.strict_order.specs.Strict.{Standing, IsAllowed, NeverFalls}
use Rattle.strict_order.proofs.Arranging.{Ascends}

-- a thing with its moment
abbrev pub Timed : Type 0
Timed = Thing × Moment

abbrev pub numbered : ℕ → List Timed → List Standing
numbered top [] = []
numbered top (p ∷ ps) = record { thing = p.0; moment = p.1; number = max top p.0.least } ∷ numbered (max top p.0.least) ps

pub map-numbered : (top : ℕ) (ps : List Timed) → map (λ standing. (standing.thing, standing.moment)) (numbered top ps) ≡ ps
map-numbered top [] = refl
map-numbered top (p ∷ ps) = ap (λ qs. p ∷ qs) (map-numbered (max top p.0.least) ps)

-- moments that don't fall stay so, and no number is below the first
numbered_above : (top : ℕ) (moment : Moment) (ps : List Timed) → All (λ p. moment.0 ≤ℤ p.1.0) ps → All (λ standing. (moment.0 ≤ℤ standing.moment.0) × (top ≤ standing.number)) (numbered top ps)
numbered_above top moment [] later = All-nil (λ (standing : Standing). (moment.0 ≤ℤ standing.moment.0) × (top ≤ standing.number))
numbered_above top moment (p ∷ ps) later =
    All-cons (λ (standing : Standing). (moment.0 ≤ℤ standing.moment.0) × (top ≤ standing.number)) _ _
    (All-head (λ (p : Timed). moment.0 ≤ℤ p.1.0) p ps later, omega arith)
    (All-weaker (λ (standing : Standing). (moment.0 ≤ℤ standing.moment.0) × (max top p.0.least ≤ standing.number)) (λ (standing : Standing). (moment.0 ≤ℤ standing.moment.0) × (top ≤ standing.number))
    (λ standing above. (above.0, (let high = above.1 in omega arith))) _
    (numbered_above (max top p.0.least) moment ps (All-tail (λ (p : Timed). moment.0 ≤ℤ p.1.0) p ps later)))

pub numbered-rises : (top : ℕ) (ps : List Timed) → Ascends (λ p q. p.1.0 ≤ℤ q.1.0) ps → Ascends NeverFalls (numbered top ps)
numbered-rises top [] ascends = tt
numbered-rises top (p ∷ ps) ascends = (numbered_above (max top p.0.least) p.1 ps ascends.0, numbered-rises (max top p.0.least) ps ascends.1)

-- the moment lies within the thing's bounds, and its numbers are in order
pub record IsFit (p : Timed) : Type 0 where
  pub not_early : p.0.lo.0 ≤ℤ p.1.0
  pub not_late : p.1.0 ≤ℤ p.0.hi.0
  pub numbers : p.0.least ≤ p.0.greatest

-- where no thing's least number is above the greatest number of a later one, each number is allowed
pub numbered-allowed : (top : ℕ) (ps : List Timed) → All IsFit ps → All (λ p. top ≤ p.0.greatest) ps → Ascends (λ p q. p.0.least ≤ q.0.greatest) ps → All IsAllowed (numbered top ps)
numbered-allowed top [] fit low ascends = All-nil IsAllowed
numbered-allowed top (p ∷ ps) fit low ascends =
    let first = All-head IsFit p ps fit in
    let upto = All-head (λ (p : Timed). top ≤ p.0.greatest) p ps low in
    let numbers = first.numbers in
    All-cons IsAllowed _ _
    (record { not_early = first.not_early; not_late = first.not_late; not_low = omega arith; not_high = omega arith })
    (numbered-allowed (max top p.0.least) ps (All-tail IsFit p ps fit)
    (λ k d within. let before = All-tail (λ (p : Timed). top ≤ p.0.greatest) p ps low k d within in let least = ascends.0 k d within in omega arith)
    ascends.1)
