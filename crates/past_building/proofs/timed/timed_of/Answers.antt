use Rattle.std.proofs.Common.{sym, ◌∙◌, subst}
use Rattle.history_model.specs.Judging.{IsOrder}
use Rattle.write_groups.specs.Members.{AreGroupsOf}
use Rattle.past_building.specs.Hidden.{HasSlots, slots_of}
use Rattle.past_building.proofs.timed.timed_of.Goals as goal

pub returns : goal.returns
returns c = record {
  begins = c.in_ok-windows.ensures.start;
  groups = record {
    rising = c.in_ok-groups.ensures.rising;
    above = c.in_ok-groups.ensures.above;
    members = c.in_ok-groups.ensures.members;
  };
  timed = λ h all begins order spans.
      let is_order : IsOrder h = c.in_ok-order.ensures h all order in
      let groups : AreGroupsOf h c.in_ok-groups.groups = c.in_ok-groups.ensures.groups h all begins (order ∙ sym c.deref.ensures.value) is_order in
      (is_order, groups, c.in_ok-windows.ensures.spans h all is_order (subst (AreGroupsOf h) (sym c.as_slice.ensures) groups) spans);
  clouds = λ h times all slots. c.in_ok-clouds.ensures h times all
      (subst (λ groups. HasSlots (slots_of c.args.snapshot.now groups) h) (sym c.as_slice-2.ensures) slots);
}
