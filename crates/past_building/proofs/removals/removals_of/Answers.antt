use Rattle.std.proofs.Common.{map, rules, ap, ◌∙◌}
use Rattle.std.proofs.lemmas.List.Sorted.{IsNonDecreasingBy-from_sort_by_key}
use Rattle.object_past.specs.Modelled.{recorded}
use Rattle.object_past.specs.declared.removal.Removal.{Removal}
use Rattle.past_building.proofs.Finding.{are_removals}
use Rattle.past_building.proofs.Sorting.{sorted_apart}
use Rattle.past_building.proofs.removals.removals_of.Goals as goal

pub returns : goal.returns
returns c = λ h log is removals.
    let found = c.in_ok-removals.ensures h log is in
    are_removals h c.in_ok-removals.removals.items c.sort_by_key.new.self.items c.in_ok-sort_by_key.ensures.permutation
    (sorted_apart (λ (removal : Removal). removal.range.event) c.in_ok-removals.removals.items c.sort_by_key.new.self.items c.in_ok-sort_by_key.ensures.permutation found.apart
    (IsNonDecreasingBy-from_sort_by_key (λ (removal : Removal). removal.range.event) _ c.in_ok-sort_by_key.ensures.sorted (λ a r q k. search rules)))
    found (removals ∙ ap (map recorded) c.from_vec.ensures)
