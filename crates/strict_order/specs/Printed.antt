-- The moment that is printed of a thing: the first that it can have in the order.
use Rattle.std.specs.Prelude.{◌≡◌, ◌≤ℤ◌, ◌⊎◌, List, All, Any}
use Rattle.base_types.specs.declared.kubernetes.revision.Moment.{Moment}
use Rattle.strict_order.specs.declared.thing.Thing.{Thing}
use Rattle.strict_order.specs.Things.{ComesBefore}

-- the greatest first moment of b and of all things that come before it
pub record IsPrinted (things : List Thing) (b : Thing) (moment : Moment) : Type 0 where
  pub reached : (moment ≡ b.lo) ⊎ Any (λ a. ComesBefore a b × (moment ≡ a.lo)) things
  pub own : b.lo.0 ≤ℤ moment.0
  pub others : All (λ a. ComesBefore a b → a.lo.0 ≤ℤ moment.0) things
