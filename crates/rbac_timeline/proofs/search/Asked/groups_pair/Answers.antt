use Rattle.std.proofs.Common.{ℕ, ◌≤◌, ◌⊎◌, List, take, sym, ◌∙◌, subst, arith}
use Rattle.std.specs.List.{Any}
use Rattle.std.proofs.lemmas.List.{take_all}
use Rattle.rbac_timeline.specs.Extents.{MayGrantInWay}
use Rattle.rbac_timeline.specs.Found.{FirstFor, MayGrantNamed, StartsReigning}
use Rattle.rbac_timeline.specs.Reigning.{AsGroup, Means, found_reigns}
use Rattle.rbac_timeline.specs.Unsure.{last_place}
use Rattle.rbac_timeline.proofs.Pairing.{more_any}
use Rattle.rbac_timeline.proofs.Partly.{FirstFor-cover, FirstFor-earlier, FirstFor-stop}
use Rattle.rbac_timeline.proofs.Subjects.{may_starts_reigning}
use Rattle.rbac_timeline.proofs.search.Asked.groups_pair.Goals as goal

pub loop-group-preserved : goal.loop-group-preserved
loop-group-preserved c =
    let s = c.args.self.now in
    let known = s.timeline.now in
    let way = c.args.way in
    let all = λ (r b : ℕ). MayGrantInWay known way r b s.who.now s.attrs.now in
    let by = λ (group : List ℕ) (r b : ℕ). MayGrantNamed known (λ x. Means AsGroup x group) way r b s.who.now s.attrs.now in
    let group : List ℕ = c.group-item.result in
    let here = FirstFor-cover all s.low s.high (StartsReigning known way s.low s.high s.who.now s.attrs.now (found_reigns c.group_reigns-reigns.result)) (by group) c.reigns_pair.result
    (λ r b from upto may.
    let high : s.high ≤ last_place = c.requires.fits in
    may_starts_reigning known way b s.who.now s.attrs.now r (λ x. Means AsGroup x group) _ s.low s.high from upto (omega arith) c.group_reigns-reigns.ensures may)
    c.reigns_pair.ensures.found in (
      rw c.earlier_pair-best.ensures (FirstFor-earlier all s.low s.high (λ r b. Any (λ g. by g r b) (take c.loop-group.group-index c.args.groups.now)) (by group) _ c.loop-group.best c.reigns_pair.result
          (λ r b any. more_any (λ g. by g r b) c.args.groups.now c.loop-group.group-index group c.loop-group-test.true c.group-item.is any) c.loop-group.invariant.0 here),
      c.reigns_pair.ensures.firsts,
    )

pub returns-clause-found : goal.returns-clause-found
returns-clause-found c =
    let s = c.args.self.now in
    let by = λ (group : List ℕ) (r b : ℕ). MayGrantNamed s.timeline.now (λ x. Means AsGroup x group) c.args.way r b s.who.now s.attrs.now in
    subst (λ l. FirstFor (λ (r b : ℕ). MayGrantInWay s.timeline.now c.args.way r b s.who.now s.attrs.now) (λ (r b : ℕ). Any (λ g. by g r b) l) s.low s.high c.loop-group.best)
    (take_all c.loop-group.group-index c.args.groups.now c.loop-group-test.false) c.loop-group.invariant.0

pub returns-then-is_lowest-clause-found : goal.returns-then-is_lowest-clause-found
returns-then-is_lowest-clause-found c =
    let s = c.args.self.now in
    let known = s.timeline.now in
    let way = c.args.way in
    let all = λ (r b : ℕ). MayGrantInWay known way r b s.who.now s.attrs.now in
    let by = λ (group : List ℕ) (r b : ℕ). MayGrantNamed known (λ x. Means AsGroup x group) way r b s.who.now s.attrs.now in
    let before = λ (r b : ℕ). Any (λ g. by g r b) (take c.loop-group.group-index c.args.groups.now) in
    let here = λ (r b : ℕ). StartsReigning known way s.low s.high s.who.now s.attrs.now (found_reigns c.group_reigns-reigns.result) r b in
    FirstFor-stop all s.low s.high (λ (r b : ℕ). before r b ⊎ here r b) _ c.earlier_pair-best.result (sym c.is_lowest.ensures ∙ c.if-is_lowest.true)
    (rw c.earlier_pair-best.ensures (FirstFor-earlier all s.low s.high before here (λ (r b : ℕ). before r b ⊎ here r b) c.loop-group.best c.reigns_pair.result (λ r b either. either) c.loop-group.invariant.0 c.reigns_pair.ensures.found))
