use Rattle.std.proofs.Common.{◌∙◌}
use Rattle.object_past.proofs.Ended.{ending_removal}
use Rattle.object_past.proofs.past.Past.removal_of.Goals as goal

pub returns : goal.returns
returns c =
    let among = rw c.deref.ensures.value at c.in_ok-ending_behind.ensures.some in
    let r = ending_removal _ _ c.in_ok-ending_behind.field-0 c.self.invariant.endings_of among in
    rw (← c.self.view_is) (r.0, r.1, r.2 ∙ c.in_ok-ending_behind.ensures.last)
