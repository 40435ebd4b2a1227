use Rattle.std.proofs.Common.{◌∙◌, map, ap, subst}
use Rattle.std.specs.List.Sorted.{IsPermutation}
use Rattle.write_groups.proofs.Judging.{order_found}
use Rattle.write_groups.specs.declared.order.Turn.{Turn}
use Rattle.write_groups.proofs.order.order_of.Goals as goal

pub returns : goal.returns
returns c = λ h has is.
    order_found c.args.events.now c.in_ok-turns.turns.items
    (subst (λ l. IsPermutation l c.in_ok-turns.turns.items) c.in_ok-turns_of.ensures c.in_ok-turns.ensures.same)
    c.in_ok-turns.ensures.sorted c.requires.lines h has
    (is ∙ c.in_ok-numbers_of.ensures ∙ ap (map (λ (t : Turn). t.number)) c.deref.ensures.value)
