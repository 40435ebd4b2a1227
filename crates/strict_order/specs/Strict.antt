-- The strict order: all things in one list, along which neither moments nor numbers fall.
use Rattle.std.specs.Prelude.{◌≡◌, ℕ, ◌≤◌, ◌≤ℤ◌, List, length, map, All, AllPairs}
use Rattle.std.specs.List.{zip}
use Rattle.std.specs.List.Sorted.{IsPermutation}
use Rattle.base_types.specs.declared.kubernetes.revision.Moment.{Moment}
use Rattle.strict_order.specs.declared.thing.Thing.{Thing}

-- a thing, with the moment and the number at which it stands
pub record Standing : Type 0 where
  pub thing : Thing
  pub moment : Moment
  pub number : ℕ

-- the thing may have that moment and that number
pub record IsAllowed (standing : Standing) : Type 0 where
  pub not_early : standing.thing.lo.0 ≤ℤ standing.moment.0
  pub not_late : standing.moment.0 ≤ℤ standing.thing.hi.0
  pub not_low : standing.thing.least ≤ standing.number
  pub not_high : standing.number ≤ standing.thing.greatest

-- neither the moment nor the number falls from a to b
abbrev pub NeverFalls : Standing → Standing → Type 0
NeverFalls a b = (a.moment.0 ≤ℤ b.moment.0) × (a.number ≤ b.number)

-- all things stand in one list at these moments and at some numbers, and along it neither falls
pub record StandsAt (things : List Thing) (moments : List Moment) : Type 0 where
  pub long : length moments ≡ length things
  pub line : List Standing
  pub same : IsPermutation (zip things moments) (map (λ standing. (standing.thing, standing.moment)) line)
  pub allowed : All IsAllowed line
  pub rising : AllPairs NeverFalls line

-- there are such moments
abbrev pub IsStrict : List Thing → Type 0
IsStrict things = (moments : List Moment) × StandsAt things moments
