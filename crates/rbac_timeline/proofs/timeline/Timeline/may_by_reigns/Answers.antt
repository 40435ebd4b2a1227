use Rattle.std.proofs.Common.{ℕ, ◌<◌, ◌≤◌, ⊎_elim, length, sym, subst, arith}
use Rattle.std.specs.List.{Contains}
use Rattle.std.proofs.lemmas.Bool.{both_ways}
use Rattle.rbac_timeline.specs.declared.reigns.Reign.{Reign}
use Rattle.rbac_timeline.specs.Choices.{IsKnownKey}
use Rattle.rbac_timeline.specs.Found.{MayGrantReigning}
use Rattle.rbac_timeline.specs.Kept.{MayGrantByListed}
use Rattle.rbac_timeline.specs.Reigning.{found_reigns}
use Rattle.rbac_timeline.proofs.Naming.{way_from_known}
use Rattle.rbac_timeline.proofs.Partly.{MetFrom-end, MetFrom-found}
use Rattle.rbac_timeline.proofs.timeline.Timeline.may_by_reigns.Goals as goal

pub returns-then-key_extent-clause-sound : goal.returns-then-key_extent-clause-sound
returns-then-key_extent-clause-sound c = λ yes.
    let known = c.args.self.now in
    let link = c.args.link in
    let reigns = c.in-Some.reigns.now in
    let reign = c.get-reign.result.now in
    let index : ℕ = c.in-Some-last_meeting.index in
    let last = c.in-Some-last_meeting.ensures in
    let upto : c.reigns.rest ≤ length reigns = c.reigns.invariant.0 in
    let before : index < c.reigns.rest = last.within in
    let within : index < length reigns = omega arith in
    let among : Contains (found_reigns c.args.reigns) reign = subst (λ o. Contains (found_reigns o) reign) (sym c.in-Some.is) (index, within, sym c.get-reign.ensures) in
    let is_known : IsKnownKey known reign.key = c.requires reign among in
    way_from_known known link.way link.role_place link.binding_place c.args.who.now c.args.attrs.now (reign.key, is_known, c.key_extent.ensures.may.0 c.if-key_extent.true)

pub reigns-preserved : goal.reigns-preserved
reigns-preserved c =
    let link = c.args.link in
    let reigns = c.in-Some.reigns.now in
    let last = c.in-Some-last_meeting.ensures in
    let upto : c.reigns.rest ≤ length reigns = c.reigns.invariant.0 in
    let before : c.in-Some-last_meeting.index < c.reigns.rest = last.within in (
      omega arith,
      λ met. ⊎_elim
          c.reigns.invariant.1
          (λ listed. both_ways _ c.if-key_extent.false (c.key_extent.ensures.may.1 listed))
          (MetFrom-found link.binding_place link.binding_place reigns
          (λ (x : Reign). MayGrantByListed c.args.self.now link.way link.role_place link.binding_place c.args.who.now c.args.attrs.now x.key) c.reigns.rest c.in-Some-last_meeting.index c.get-reign.result.now
          last c.get-reign.ensures met),
    )

pub returns-clause-full : goal.returns-clause-full
returns-clause-full c = λ any.
    let link = c.args.link in
    let reigns = c.in-Some.reigns.now in
    let E = λ (x : Reign). MayGrantByListed c.args.self.now link.way link.role_place link.binding_place c.args.who.now c.args.attrs.now x.key in
    absurd (c.reigns.invariant.1 (MetFrom-end link.binding_place link.binding_place reigns E c.reigns.rest c.in_default-last_meeting.ensures
    (subst (λ o. MayGrantReigning c.args.self.now link.way link.role_place link.binding_place c.args.who.now c.args.attrs.now (found_reigns o)) c.in-Some.is any)))
