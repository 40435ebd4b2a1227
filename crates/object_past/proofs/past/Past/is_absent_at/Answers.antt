use Rattle.std.proofs.Common.{◌∙◌}
use Rattle.object_past.proofs.Absent.{removed}
use Rattle.object_past.proofs.Cut.{recorded_of}
use Rattle.object_past.proofs.past.Past.is_absent_at.Goals as goal

pub returns : goal.returns
returns c =
    let latest = rw (← c.self.view_is) at c.in-Some.ensures.latest in
    let among = rw c.as_slice-endings.ensures.value at c.in-Some-ending_behind.ensures.some in
    rw (← c.self.view_is) (removed (recorded_of c.self.inside.versions c.self.inside.removals) c.self.inside.endings.items c.args.key.now c.args.place c.in-Some.version.now c.in-Some-ending_behind.ending
    c.self.invariant.ends c.self.invariant.endings_of latest among (c.in-Some-ending_behind.ensures.last ∙ c.get.ensures.value))
