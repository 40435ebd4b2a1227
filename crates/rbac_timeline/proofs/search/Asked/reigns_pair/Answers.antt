use Rattle.std.proofs.Common.{◌≡◌, ℕ, ◌<◌, ◌≤◌, length, max, sym, subst, ◌∙◌, arith}
use Rattle.std.specs.List.{Any, Contains}
use Rattle.span_index.specs.Meeting.{Meets}
use Rattle.rbac_timeline.specs.declared.reigns.Reign.{Reign}
use Rattle.rbac_timeline.specs.Choices.{IsKnownKey}
use Rattle.rbac_timeline.specs.Extents.{MayGrantInWay}
use Rattle.rbac_timeline.specs.Kept.{MayGrantByListed}
use Rattle.rbac_timeline.specs.Reigning.{found_reigns}
use Rattle.rbac_timeline.specs.Reigns.{span_of}
use Rattle.rbac_timeline.specs.Searched.{IsFirstPair}
use Rattle.rbac_timeline.proofs.Naming.{way_from_known}
use Rattle.rbac_timeline.proofs.Partly.{FirstFor-met, FirstFor-one, FirstFor-stop, FirstFor-weaker, MetFrom, MetFrom-end, start_within}
use Rattle.rbac_timeline.proofs.search.Asked.reigns_pair.Goals as goal

pub pair_at-requires-clause-upto_high : goal.pair_at-requires-clause-upto_high
pair_at-requires-clause-upto_high c =
    let s = c.args.self.now in
    start_within s.low s.high c.in-Some.reigns.now c.reigns.rest c.in-Some-last_meeting.index c.get-reign.result.now c.max-start.result c.requires.range c.reigns.invariant.0 c.in-Some-last_meeting.ensures
    c.get-reign.ensures c.max-start.ensures

pub returns-then-is_lowest-clause-found : goal.returns-then-is_lowest-clause-found
returns-then-is_lowest-clause-found c =
    let s = c.args.self.now in
    let known = s.timeline.now in
    let way = c.args.way in
    let reigns = c.in-Some.reigns.now in
    let reign = c.get-reign.result.now in
    let index : ℕ = c.in-Some-last_meeting.index in
    let last = c.in-Some-last_meeting.ensures in
    let upto : c.reigns.rest ≤ length reigns = c.reigns.invariant.0 in
    let before : index < c.reigns.rest = last.within in
    let within : index < length reigns = omega arith in
    let among : Contains (found_reigns c.args.reigns) reign = subst (λ o. Contains (found_reigns o) reign) (sym c.in-Some.is) (index, within, sym c.get-reign.ensures) in
    let is_known : IsKnownKey known reign.key = c.requires.known reign among in
    let all = λ (r b : ℕ). MayGrantInWay known way r b s.who.now s.attrs.now in
    let E = λ (r b : ℕ) (x : Reign). (b ≡ max s.low x.first) × MayGrantByListed known way r b s.who.now s.attrs.now x.key in
    let here = FirstFor-one all s.low s.high (λ (r b : ℕ). E r b reign) c.pair_at.result (λ r b may. way_from_known known way r b s.who.now s.attrs.now (reign.key, is_known, may.1))
    (subst (λ n. IsFirstPair (λ (r b : ℕ). (b ≡ n) × MayGrantByListed known way r b s.who.now s.attrs.now reign.key) s.low s.high c.pair_at.result) c.max-start.ensures c.pair_at.ensures.found) in
    FirstFor-stop all s.low s.high (λ (r b : ℕ). MetFrom s.low s.high reigns (E r b) index) _ c.earlier_pair-best.result (sym c.is_lowest.ensures ∙ c.if-is_lowest.true)
    (rw c.earlier_pair-best.ensures (FirstFor-met s.low s.high reigns all s.low s.high E c.reigns.rest index reign c.reigns.best c.pair_at.result last c.get-reign.ensures c.reigns.invariant.1 here))

pub reigns-preserved : goal.reigns-preserved
reigns-preserved c =
    let s = c.args.self.now in
    let known = s.timeline.now in
    let way = c.args.way in
    let reigns = c.in-Some.reigns.now in
    let reign = c.get-reign.result.now in
    let index : ℕ = c.in-Some-last_meeting.index in
    let last = c.in-Some-last_meeting.ensures in
    let upto : c.reigns.rest ≤ length reigns = c.reigns.invariant.0 in
    let before : index < c.reigns.rest = last.within in
    let within : index < length reigns = omega arith in
    let among : Contains (found_reigns c.args.reigns) reign = subst (λ o. Contains (found_reigns o) reign) (sym c.in-Some.is) (index, within, sym c.get-reign.ensures) in
    let is_known : IsKnownKey known reign.key = c.requires.known reign among in
    let all = λ (r b : ℕ). MayGrantInWay known way r b s.who.now s.attrs.now in
    let E = λ (r b : ℕ) (x : Reign). (b ≡ max s.low x.first) × MayGrantByListed known way r b s.who.now s.attrs.now x.key in
    let here = FirstFor-one all s.low s.high (λ (r b : ℕ). E r b reign) c.pair_at.result (λ r b may. way_from_known known way r b s.who.now s.attrs.now (reign.key, is_known, may.1))
    (subst (λ n. IsFirstPair (λ (r b : ℕ). (b ≡ n) × MayGrantByListed known way r b s.who.now s.attrs.now reign.key) s.low s.high c.pair_at.result) c.max-start.ensures c.pair_at.ensures.found) in (
      omega arith,
      rw c.earlier_pair-best.ensures (FirstFor-met s.low s.high reigns all s.low s.high E c.reigns.rest index reign c.reigns.best c.pair_at.result last c.get-reign.ensures c.reigns.invariant.1 here),
      c.pair_at.ensures.firsts,
    )

pub returns-clause-found : goal.returns-clause-found
returns-clause-found c =
    let s = c.args.self.now in
    let known = s.timeline.now in
    let way = c.args.way in
    let reigns = c.in-Some.reigns.now in
    let all = λ (r b : ℕ). MayGrantInWay known way r b s.who.now s.attrs.now in
    let E = λ (r b : ℕ) (x : Reign). (b ≡ max s.low x.first) × MayGrantByListed known way r b s.who.now s.attrs.now x.key in
    rw c.in-Some.is (FirstFor-weaker all s.low s.high (λ (r b : ℕ). MetFrom s.low s.high reigns (E r b) c.reigns.rest) (λ (r b : ℕ). Any (λ (x : Reign). Meets s.low s.high (span_of x) × E r b x) reigns) c.reigns.best
    (λ r b upto any. MetFrom-end s.low s.high reigns (E r b) c.reigns.rest c.in_default-last_meeting.ensures any) c.reigns.invariant.1)
