use Rattle.std.proofs.Common.{ℕ, ◌≤◌, List, sym, ◌∙◌, arith}
use Rattle.std.specs.List.{Any}
use Rattle.rbac_rules.specs.Matching.{Matches}
use Rattle.rbac_timeline.specs.Extents.{MayGrantInWay}
use Rattle.rbac_timeline.specs.Found.{MayGrantNamed, StartsReigning}
use Rattle.rbac_timeline.specs.Reigning.{AsGroup, AsUser, Means, found_reigns}
use Rattle.rbac_timeline.specs.Unsure.{last_place}
use Rattle.rbac_timeline.proofs.Partly.{FirstFor-cover, FirstFor-earlier, FirstFor-stop}
use Rattle.rbac_timeline.proofs.Subjects.{may_split, may_starts_reigning}
use Rattle.rbac_timeline.proofs.search.Asked.named_pair.Goals as goal

pub returns-clause-found : goal.returns-clause-found
returns-clause-found c =
    let s = c.args.self.now in
    let known = s.timeline.now in
    let way = c.args.way in
    let all = λ (r b : ℕ). MayGrantInWay known way r b s.who.now s.attrs.now in
    let by_user = λ (r b : ℕ). MayGrantNamed known (λ x. Means AsUser x s.who.now.name) way r b s.who.now s.attrs.now in
    let by_groups = λ (r b : ℕ). Any (λ (group : List ℕ). MayGrantNamed known (λ x. Means AsGroup x group) way r b s.who.now s.attrs.now) s.who.now.groups in
    let high : s.high ≤ last_place = c.requires.fits in
    let user = FirstFor-cover all s.low s.high (StartsReigning known way s.low s.high s.who.now s.attrs.now (found_reigns c.user_reigns-reigns.result)) by_user c.reigns_pair-user.result
    (λ r b from upto may. may_starts_reigning known way b s.who.now s.attrs.now r (λ x. Means AsUser x s.who.now.name) _ s.low s.high from upto (omega arith) c.user_reigns-reigns.ensures may)
    c.reigns_pair-user.ensures.found in
    let groups = rw c.as_slice.ensures at c.groups_pair.ensures.found in
    rw c.earlier_pair.ensures (FirstFor-earlier all s.low s.high by_user by_groups (λ r b. MayGrantNamed known (λ x. Matches x s.who.now) way r b s.who.now s.attrs.now) _ _
    (λ r b may. may_split known way b s.who.now s.attrs.now r may) user groups)

pub returns-then-is_lowest-clause-found : goal.returns-then-is_lowest-clause-found
returns-then-is_lowest-clause-found c =
    let s = c.args.self.now in
    FirstFor-stop (λ (r b : ℕ). MayGrantInWay s.timeline.now c.args.way r b s.who.now s.attrs.now) s.low s.high
    (StartsReigning s.timeline.now c.args.way s.low s.high s.who.now s.attrs.now (found_reigns c.user_reigns-reigns.result)) _ c.reigns_pair-user.result
    (sym c.is_lowest.ensures ∙ c.if-is_lowest.true) c.reigns_pair-user.ensures.found
