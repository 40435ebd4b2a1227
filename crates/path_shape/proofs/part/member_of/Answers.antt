use Rattle.std.proofs.Common.{sym, ap, subst, ◌∙◌}
use Rattle.std.specs.Prelude.{option_and_then}
use Rattle.base_types.specs.Names.{AreSorted}
use Rattle.path_shape.specs.Forms.{left_of}
use Rattle.path_shape.proofs.FormLemmas.{lookup-thin_fields}
use Rattle.path_shape.proofs.part.member_of.Goals as goal

pub returns-in-Some-clause-form : goal.returns-in-Some-clause-form
returns-in-Some-clause-form c =
    sym (lookup-thin_fields c.args.name.now c.args.list.now (subst AreSorted c.list.view_is c.list.invariant) ∙ ap (option_and_then left_of) (sym c.in-Some.ensures))

pub returns-in-None-clause-form : goal.returns-in-None-clause-form
returns-in-None-clause-form c =
    sym (lookup-thin_fields c.args.name.now c.args.list.now (subst AreSorted c.list.view_is c.list.invariant) ∙ ap (option_and_then left_of) (sym c.in-None.ensures))
