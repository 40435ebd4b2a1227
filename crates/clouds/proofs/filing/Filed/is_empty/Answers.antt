use Rattle.std.proofs.Common.{◌≡◌, List, [], ◌∷◌, length, refl, ap, arith}
use Rattle.std.proofs.lemmas.Bool.{both_ways}
use Rattle.clouds.proofs.filing.Filed.is_empty.Goals as goal

nothing_left : {X : Type 0} (items : List X) → length items ≡ 0 → items ≡ []
nothing_left [] none = refl
nothing_left (x ∷ items) none = absurd (omega arith)

pub returns-then-is_empty : goal.returns-then-is_empty
returns-then-is_empty c =
    let wide = c.is_empty-then-is_empty.ensures in (
      (λ yes. (nothing_left _ (c.is_empty.ensures.0 c.if-is_empty.true), nothing_left _ (wide.0 yes))),
      (λ none. wide.1 (ap length none.1)),
    )

pub returns-else-is_empty : goal.returns-else-is_empty
returns-else-is_empty c = (
  (λ yes. absurd (both_ways _ c.if-is_empty.false yes)),
  (λ none. absurd (both_ways _ c.if-is_empty.false (c.is_empty.ensures.1 (ap length none.0)))),
)
