use Rattle.std.proofs.lemmas.Option.{MatchOption-at_none, MatchOption-at_some}
use Rattle.strict_order.proofs.Crossing.{StandsAt-from_none, not_strict}
use Rattle.strict_order.proofs.moments.settle_moments.Goals as goal

pub returns-in_default : goal.returns-in_default
returns-in_default c =
    let none = MatchOption-at_none _ _ c.in_default.is c.in_ok-moments.ensures.late in
    let stands = StandsAt-from_none _ _ c.requires.moments c.requires.numbers none c.in_ok-moments.ensures.printed in
    record {
      settled = rw c.from_vec.ensures (stands, c.in_ok-moments.ensures.printed);
      strict = (λ _. (_, stands), λ _. tt);
    }

pub returns-clause-strict : goal.returns-clause-strict
returns-clause-strict c =
    let late = MatchOption-at_some _ _ _ c.in-Some.is c.in_ok-moments.ensures.late in
    (λ none. absurd none, not_strict _ _ late.0 late.1)
