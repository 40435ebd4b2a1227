use Rattle.std.proofs.Common.{◌≡◌, subst}
use Rattle.past_building.specs.Hidden.{unrecorded_in}
use Rattle.log_context.specs.Histories.{history_of}
use Rattle.log_context.specs.Known.{Known}
use Rattle.log_context.specs.Roles.{AreRoles, role_ends}
use Rattle.log_context.proofs.context.Context.timeline.Goals as goal

pub returns-clause-roles : goal.returns-clause-roles
returns-clause-roles c = subst (λ (k : Known). AreRoles k.trees k.versions k.rbac.versions) c.self.view_is c.self.invariant.roles

pub returns-clause-ends : goal.returns-clause-ends
returns-clause-ends c = subst (λ (k : Known). k.rbac.ends ≡ role_ends k.removals) c.self.view_is c.self.invariant.ends

pub returns-clause-spans : goal.returns-clause-spans
returns-clause-spans c = subst (λ (k : Known). k.rbac.spans ≡ unrecorded_in (history_of k) k.log) c.self.view_is c.self.invariant.unrecorded

pub returns-clause-bypass : goal.returns-clause-bypass
returns-clause-bypass c = subst (λ (k : Known). k.rbac.bypass ≡ k.setup.bypass) c.self.view_is c.self.invariant.bypass
