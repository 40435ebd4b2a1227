use Rattle.std.proofs.Common.{ℕ, ◌<◌, ◌≤◌, length, sym, subst, ◌∙◌, arith}
use Rattle.std.specs.List.{Any, Contains}
use Rattle.span_index.specs.Meeting.{Meets}
use Rattle.rbac_timeline.specs.declared.reigns.Reign.{Reign}
use Rattle.rbac_timeline.specs.Choices.{IsKnownKey}
use Rattle.rbac_timeline.specs.Extents.{MustGrantInWay}
use Rattle.rbac_timeline.specs.Kept.{MustGrantByListed}
use Rattle.rbac_timeline.specs.Reigning.{found_reigns}
use Rattle.rbac_timeline.specs.Reigns.{span_of}
use Rattle.rbac_timeline.proofs.Naming.{must_from_known}
use Rattle.rbac_timeline.proofs.Partly.{LastsFor-met, LastsFor-one, LastsFor-stop, LastsFor-weaker, MetFrom, MetFrom-end}
use Rattle.rbac_timeline.proofs.search.Asked.reigns_until.Goals as goal

pub returns-then-lasts_throughout : goal.returns-then-lasts_throughout
returns-then-lasts_throughout c =
    let s = c.args.self.now in
    let known = s.timeline.now in
    let link = c.args.link in
    let place : ℕ = link.binding_place in
    let reigns = c.in-Some.reigns.now in
    let reign = c.get-reign.result.now in
    let index : ℕ = c.in-Some-last_meeting.index in
    let last = c.in-Some-last_meeting.ensures in
    let upto : c.reigns.rest ≤ length reigns = c.reigns.invariant.0 in
    let before : index < c.reigns.rest = last.within in
    let within : index < length reigns = omega arith in
    let among : Contains (found_reigns c.args.reigns) reign = subst (λ o. Contains (found_reigns o) reign) (sym c.in-Some.is) (index, within, sym c.get-reign.ensures) in
    let is_known : IsKnownKey known reign.key = c.requires.known reign among in
    let here = LastsFor-one (λ (r b : ℕ). MustGrantInWay known link.way r b s.who.now s.attrs.now) link.role_place place s.high (λ (r b : ℕ). MustGrantByListed known link.way r b s.who.now s.attrs.now reign.key) c.key_until.result
    (λ r b must. must_from_known known link.way r b s.who.now s.attrs.now reign.key is_known must) c.key_until.ensures in
    LastsFor-stop (λ (r b : ℕ). MustGrantInWay known link.way r b s.who.now s.attrs.now) link.role_place place s.high
    (MetFrom place place reigns (λ (x : Reign). MustGrantByListed known link.way link.role_place place s.who.now s.attrs.now x.key) index) _ c.farther-farthest.result
    (sym c.lasts_throughout.ensures ∙ c.if-lasts_throughout.true)
    (rw c.farther-farthest.ensures (LastsFor-met place place reigns (λ (r b : ℕ). MustGrantInWay known link.way r b s.who.now s.attrs.now) link.role_place place s.high
    (λ (x : Reign). MustGrantByListed known link.way link.role_place place s.who.now s.attrs.now x.key) c.reigns.rest index reign c.reigns.farthest c.key_until.result last c.get-reign.ensures c.reigns.invariant.1 here))

pub reigns-preserved : goal.reigns-preserved
reigns-preserved c =
    let s = c.args.self.now in
    let known = s.timeline.now in
    let link = c.args.link in
    let place : ℕ = link.binding_place in
    let reigns = c.in-Some.reigns.now in
    let reign = c.get-reign.result.now in
    let index : ℕ = c.in-Some-last_meeting.index in
    let last = c.in-Some-last_meeting.ensures in
    let upto : c.reigns.rest ≤ length reigns = c.reigns.invariant.0 in
    let before : index < c.reigns.rest = last.within in
    let within : index < length reigns = omega arith in
    let among : Contains (found_reigns c.args.reigns) reign = subst (λ o. Contains (found_reigns o) reign) (sym c.in-Some.is) (index, within, sym c.get-reign.ensures) in
    let is_known : IsKnownKey known reign.key = c.requires.known reign among in
    let here = LastsFor-one (λ (r b : ℕ). MustGrantInWay known link.way r b s.who.now s.attrs.now) link.role_place place s.high (λ (r b : ℕ). MustGrantByListed known link.way r b s.who.now s.attrs.now reign.key) c.key_until.result
    (λ r b must. must_from_known known link.way r b s.who.now s.attrs.now reign.key is_known must) c.key_until.ensures in (
      omega arith,
      rw c.farther-farthest.ensures (LastsFor-met place place reigns (λ (r b : ℕ). MustGrantInWay known link.way r b s.who.now s.attrs.now) link.role_place place s.high
          (λ (x : Reign). MustGrantByListed known link.way link.role_place place s.who.now s.attrs.now x.key) c.reigns.rest index reign c.reigns.farthest c.key_until.result last c.get-reign.ensures c.reigns.invariant.1 here),
    )

pub returns : goal.returns
returns c =
    let s = c.args.self.now in
    let known = s.timeline.now in
    let link = c.args.link in
    let place : ℕ = link.binding_place in
    let reigns = c.in-Some.reigns.now in
    let E = λ (x : Reign). MustGrantByListed known link.way link.role_place place s.who.now s.attrs.now x.key in
    rw c.in-Some.is (LastsFor-weaker (λ (r b : ℕ). MustGrantInWay known link.way r b s.who.now s.attrs.now) link.role_place place s.high (MetFrom place place reigns E c.reigns.rest)
    (Any (λ (x : Reign). Meets place place (span_of x) × E x) reigns) c.reigns.farthest (λ any. MetFrom-end place place reigns E c.reigns.rest c.in_default-last_meeting.ensures any) c.reigns.invariant.1)
