use Rattle.std.proofs.Common.{◌≡◌, ◌∙◌, sym, subst, rules}
use Rattle.std.proofs.lemmas.List.{nil_from_length}
use Rattle.past_building.proofs.Clouding.{are_clouds, are_no_clouds}
use Rattle.past_building.specs.Hidden.{HasSlots, slots_of}
use Rattle.past_building.proofs.hiding.clouds_of.Goals as goal

pub returns-then-is_empty : goal.returns-then-is_empty
returns-then-is_empty c = λ h times all slots.
    let none = nil_from_length c.in_ok-spans.spans.items (search rules) in
    are_no_clouds h c.args.events.now _ all (search rules) (sym (c.in_ok-spans.ensures h times) ∙ none)

pub returns : goal.returns
returns c = λ h times all slots.
    let same : slots_of c.args.snapshot.now c.args.groups.now ≡ c.deref-3.result.now = sym c.in_ok-slots.ensures ∙ sym c.deref-3.ensures.value in
    are_clouds h c.args.events.now c.deref-3.result.now _ all (subst (λ l. HasSlots l h) same slots) (search rules) (search rules)
