use Rattle.std.proofs.Common.{rules}
use Rattle.std.proofs.lemmas.List.Sorted.{IsNonDecreasingBy-from_sort_by_key}
use Rattle.object_past.specs.declared.ending.Ending.{Ending}
use Rattle.object_past.proofs.ending.by_last.Goals as goal

pub returns-clause-order : goal.returns-clause-order
returns-clause-order c = IsNonDecreasingBy-from_sort_by_key (λ (e : Ending). e.last) _ c.in_ok-sort_by_key.ensures.sorted (λ a r q k. search rules)
