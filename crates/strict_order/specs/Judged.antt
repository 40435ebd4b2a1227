-- The first of some things in the order of judgement.
use Rattle.std.specs.Prelude.{◌≡◌, ◌⊎◌, List, Option, All, Contains, MatchOption}
use Rattle.strict_order.specs.declared.thing.Thing.{Thing}
use Rattle.strict_order.specs.Things.{IsJudgedNoLater}

-- the one of two things that isn't judged after the other; the second where there is no first
abbrev pub IsEarlier : Option Thing → Thing → Thing → Type 0
IsEarlier first next earlier =
    MatchOption first (earlier ≡ next) (λ t. ((earlier ≡ t) × IsJudgedNoLater t next) ⊎ ((earlier ≡ next) × IsJudgedNoLater next t))

-- the first in the order of judgement of those things that are so, or that none is
abbrev pub IsFirstSuch : (Thing → Type 0) → List Thing → Option Thing → Type 0
IsFirstSuch IsSo things first =
    MatchOption first (All (λ thing. IsSo thing → ⊥) things) (λ t. Contains things t × IsSo t × All (λ thing. IsSo thing → IsJudgedNoLater t thing) things)
