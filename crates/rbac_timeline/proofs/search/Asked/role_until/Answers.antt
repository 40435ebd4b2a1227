use Rattle.rbac_timeline.specs.Lasting.{IsStill}
use Rattle.rbac_timeline.specs.States.{ReadsRules}
use Rattle.rbac_timeline.proofs.Constancy.{must_still}
use Rattle.rbac_timeline.proofs.Throughout.{HoldsUpTo-here, HoldsUpTo-map}
use Rattle.rbac_timeline.proofs.search.Asked.role_until.Goals as goal

pub returns-in-Some : goal.returns-in-Some
returns-in-Some c =
    let s = c.args.self.now in
    let known = s.timeline.now in
    let link = c.args.link in
    HoldsUpTo-map (IsStill known c.in-Some.role.now link.role_place) _ link.role_place s.high _
    (λ r from upto still must. c.in-Some.ensures link.way s.who.now s.attrs.now link.role_place r (must_still known c.in-Some.role.now link.role_place r from still ReadsRules _) must)
    c.still_until.ensures.holds_upto

pub returns-in-None : goal.returns-in-None
returns-in-None c = HoldsUpTo-here _ c.args.link.role_place c.args.self.now.high c.requires (λ must. must)
