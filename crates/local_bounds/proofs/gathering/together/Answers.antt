use Rattle.std.proofs.Common.{rules}
use Rattle.std.proofs.lemmas.List.Sorted.{IsNonDecreasingBy-from_sort, answers_always}
use Rattle.base_types.specs.declared.verdict.claim.Bound.{Bound}
use Rattle.local_bounds.proofs.gathering.together.Goals as goal

pub returns : goal.returns
returns c =
    let some = rw c.in-Some.is at c.in_ok-bounds.ensures.some in (
      some.0,
      rw (c.from_vec.ensures, ← some.1) c.sort_unstable_by_key.ensures.permutation,
      rw c.from_vec.ensures (IsNonDecreasingBy-from_sort (λ (bound : Bound). bound.range) c.sort_unstable_by_key.new.self.items
          (c.sort_unstable_by_key.ensures.sorted (λ (bound : Bound). bound.range) (answers_always _ _ _ (λ f a r g k. search rules)))),
    )
