use Rattle.std.proofs.Common.{⊎_elim, refl}
use Rattle.std.proofs.lemmas.Bool.{both_ways}
use Rattle.rbac_timeline.specs.Extents.{by_create}
use Rattle.rbac_timeline.proofs.Naming.{way_from_known}
use Rattle.rbac_timeline.proofs.Subjects.{may_parts}
use Rattle.rbac_timeline.proofs.timeline.Timeline.may.Goals as goal

pub returns-then-may_by_names : goal.returns-then-may_by_names
returns-then-may_by_names c = ((λ yes. c.may_by_names.ensures.sound c.if-may_by_names.true), (λ way. refl))

pub returns-then-may_by_nameless : goal.returns-then-may_by_nameless
returns-then-may_by_nameless c = ((λ yes. by_create (c.may_by_nameless.ensures.0 c.if-may_by_nameless.true)), (λ way. refl))

pub returns : goal.returns
returns c = (
  (λ yes. way_from_known c.args.self.now c.args.link.way c.args.link.role_place c.args.link.binding_place c.args.who.now c.args.attrs.now (c.may_by_unsure.ensures.sound yes)),
  (λ way. ⊎_elim
      (λ named. absurd (both_ways _ c.if-may_by_names.false (c.may_by_names.ensures.full named)))
      (λ other. ⊎_elim
      (λ create. absurd (both_ways _ c.if-may_by_nameless.false (c.may_by_nameless.ensures.1 create)))
      (λ unsure. c.may_by_unsure.ensures.full unsure)
      other)
      (may_parts c.args.self.now c.args.link.way c.args.link.binding_place c.args.who.now c.args.attrs.now c.args.link.role_place way)),
)
