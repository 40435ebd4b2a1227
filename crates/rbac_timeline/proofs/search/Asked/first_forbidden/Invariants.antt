use Rattle.std.proofs.Common.{◌-◌}
use Rattle.rbac_timeline.specs.Freed.{AreFirstFree}
use Rattle.rbac_timeline.proofs.Freeing.{AreBefore}
use Rattle.rbac_timeline.proofs.search.Asked.first_forbidden.Given as goal

-- the least with the role bindings before this place
abbrev pub invariant-places : goal.invariant-places
invariant-places l =
    AreBefore l.self.timeline.now l.self.who.now l.self.attrs.now l.self.low l.self.high l.bindings l.best
    × AreFirstFree l.self.timeline.now l.self.who.now l.self.attrs.now l.self.low l.self.high l.free_bindings

abbrev pub decreases-places : goal.decreases-places
decreases-places l = l.self.high - l.bindings
