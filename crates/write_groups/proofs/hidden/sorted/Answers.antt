use Rattle.std.proofs.Common.{rules}
use Rattle.std.proofs.lemmas.List.Sorted.{answers_always}
use Rattle.write_groups.proofs.Covering.{in_time}
use Rattle.write_groups.specs.declared.hidden.Hiding.{Hiding}
use Rattle.write_groups.proofs.hidden.sorted.Goals as goal

pub returns-clause-sorted : goal.returns-clause-sorted
returns-clause-sorted c =
    in_time c.sort_by_key.new.self.items (c.in_ok-sort_by_key.ensures.sorted (λ (hiding : Hiding). hiding.since) (answers_always _ _ _ (λ f a r g k. search rules)))
