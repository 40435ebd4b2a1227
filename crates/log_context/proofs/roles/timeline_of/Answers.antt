use Rattle.std.proofs.Common.{◌∙◌, sym, ap, subst}
use Rattle.rbac_timeline.specs.Sound.{AreSound}
use Rattle.log_context.proofs.RoleEnds.{roles_sound}
use Rattle.log_context.proofs.TimelineLemmas.{timeline_is}
use Rattle.log_context.specs.Roles.{AreRoles, role_ends}
use Rattle.log_context.proofs.roles.timeline_of.Goals as goal

pub build-requires : goal.build-requires
build-requires c =
    let versions = c.args.past.now.versions in
    let are : AreRoles c.args.pool.now.trees versions c.in_ok-roles.roles = subst (λ l. AreRoles c.args.pool.now.trees l c.in_ok-roles.roles) c.versions.ensures.versions c.in_ok-roles.ensures in
    subst (AreSound c.in_ok-roles.roles) (sym c.in_ok-ends.ensures)
    (roles_sound c.args.pool.now.trees versions c.removals.result.now c.in_ok-roles.roles are c.removals.ensures.ends c.requires.nodes)

pub returns : goal.returns
returns c =
    let past = c.args.past.now in
    let trees = c.args.pool.now.trees in
    let roles = c.in_ok-roles.roles in
    let are : AreRoles trees past.versions roles = subst (λ l. AreRoles trees l roles) c.versions.ensures.versions c.in_ok-roles.ensures in
    let sound : AreSound roles c.in_ok-ends.ends = subst (AreSound roles) (sym c.in_ok-ends.ensures) (roles_sound trees past.versions c.removals.result.now roles are c.removals.ensures.ends c.requires.nodes) in
    timeline_is c.args.setup.now trees past c.args.windows.now c.args.log.now roles c.in_ok-ends.ends c.from_vec-spans.result are
    (c.in_ok-ends.ensures ∙ ap role_ends c.removals.ensures.removals)
    (λ h times. c.from_vec-spans.ensures ∙ c.in_ok-unrecorded_of.ensures h times)
    sound c.build.result c.build.ensures.versions c.build.ensures.ends c.build.ensures.spans c.build.ensures.bypass
