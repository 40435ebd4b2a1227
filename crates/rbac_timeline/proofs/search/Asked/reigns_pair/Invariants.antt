use Rattle.std.proofs.Common.{◌≡◌, ℕ, ◌≤◌, length, max}
use Rattle.rbac_timeline.specs.declared.reigns.Reign.{Reign}
use Rattle.rbac_timeline.specs.Extents.{MayGrantInWay}
use Rattle.rbac_timeline.specs.Found.{AreFirst, FirstFor}
use Rattle.rbac_timeline.specs.Kept.{MayGrantByListed}
use Rattle.rbac_timeline.proofs.Partly.{MetFrom}
use Rattle.rbac_timeline.proofs.search.Asked.reigns_pair.Given as goal

-- the first of the reigns so far
abbrev pub invariant-reigns : goal.invariant-reigns
invariant-reigns l =
    (l.rest ≤ length l.reigns)
    × FirstFor (λ (r b : ℕ). MayGrantInWay l.self.timeline.now l.fn.way r b l.self.who.now l.self.attrs.now)
    (λ (r b : ℕ). MetFrom l.self.low l.self.high l.reigns (λ (x : Reign). (b ≡ max l.self.low x.first) × MayGrantByListed l.self.timeline.now l.fn.way r b l.self.who.now l.self.attrs.now x.key) l.rest)
    l.self.low l.self.high l.best
    × AreFirst l.self.timeline.now l.self.attrs.now l.self.low l.self.high l.firsts

abbrev pub decreases-reigns : goal.decreases-reigns
decreases-reigns l = l.rest
