use Rattle.std.proofs.Common.{refl, subst}
use Rattle.std.proofs.lemmas.Bool.{both_ways, false≢true}
use Rattle.rbac_timeline.specs.Known.{Known}
use Rattle.rbac_timeline.specs.Sound.{AreSound}
use Rattle.rbac_timeline.proofs.Judging.{allow_bypassed, allow_by_ways, forbid_by_ways, not_forbid_bypassed}
use Rattle.rbac_timeline.proofs.timeline.Timeline.decide.Goals as goal

pub returns-then-is_bypassed-clause-allow : goal.returns-then-is_bypassed-clause-allow
returns-then-is_bypassed-clause-allow c =
    let sound = subst (λ (k : Known). AreSound k.versions k.ends) c.self.view_is c.self.invariant.sound in
    ((λ yes. allow_bypassed c.args.self.now sound c.args.places.now c.args.who.now c.args.attrs.now (c.is_bypassed.ensures.0 c.if-is_bypassed.true)), (λ possible. refl))

pub returns-then-is_bypassed-clause-forbid : goal.returns-then-is_bypassed-clause-forbid
returns-then-is_bypassed-clause-forbid c =
    let sound = subst (λ (k : Known). AreSound k.versions k.ends) c.self.view_is c.self.invariant.sound in (
      (λ no. absurd (false≢true no)),
      (λ possible. absurd (not_forbid_bypassed c.args.self.now sound c.args.places.now c.args.who.now c.args.attrs.now (c.is_bypassed.ensures.0 c.if-is_bypassed.true) possible)),
    )

pub returns-clause-allow : goal.returns-clause-allow
returns-clause-allow c =
    let sound = subst (λ (k : Known). AreSound k.versions k.ends) c.self.view_is c.self.invariant.sound in
    rw c.any_of-allowed.ensures (allow_by_ways c.args.self.now sound c.args.places.now c.args.who.now c.args.attrs.now
    (λ bypassed. both_ways _ c.if-is_bypassed.false (c.is_bypassed.ensures.1 bypassed)) _ _ _
    (record { by_roles = c.may-may_by_roles.ensures; by_cluster_roles = c.may-may_by_cluster_roles.ensures; by_cluster_bindings = c.may-may_by_cluster_bindings.ensures }))

pub returns-clause-forbid : goal.returns-clause-forbid
returns-clause-forbid c =
    let sound = subst (λ (k : Known). AreSound k.versions k.ends) c.self.view_is c.self.invariant.sound in
    rw c.any_of-certain.ensures (forbid_by_ways c.args.self.now sound c.args.places.now c.args.who.now c.args.attrs.now
    (λ bypassed. both_ways _ c.if-is_bypassed.false (c.is_bypassed.ensures.1 bypassed)) _ _ _
    (record { by_roles = c.must-must_by_roles.ensures; by_cluster_roles = c.must-must_by_cluster_roles.ensures; by_cluster_bindings = c.must-must_by_cluster_bindings.ensures }))
