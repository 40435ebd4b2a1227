use Rattle.std.proofs.Common.{◌-◌}
use Rattle.rbac_timeline.specs.Freed.{AreFirstFree, IsBarred}
use Rattle.rbac_timeline.proofs.Freeing.{AreRolesBarred}
use Rattle.rbac_timeline.proofs.search.Asked.first_free.Given as goal

-- all places below this one are barred, with the role bindings up to `last`
abbrev pub invariant-places : goal.invariant-places
invariant-places l =
    AreRolesBarred (IsBarred l.self.timeline.now l.self.who.now l.self.attrs.now l.self.low l.self.high l.cache) l.bindings l.self.low l.self.high l.place l.last
    × AreFirstFree l.self.timeline.now l.self.who.now l.self.attrs.now l.self.low l.self.high l.free_bindings

abbrev pub decreases-places : goal.decreases-places
decreases-places l = l.self.high - l.place
