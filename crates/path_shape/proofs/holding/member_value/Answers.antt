use Rattle.std.proofs.Common.{sym, ap, subst, ◌∙◌}
use Rattle.std.specs.Prelude.{option_map}
use Rattle.base_types.specs.Meaning.{fields_of}
use Rattle.base_types.specs.Names.{AreSorted}
use Rattle.base_types.specs.Parts.{lookup}
use Rattle.path_shape.specs.Forms.{thin, is_held_by_child}
use Rattle.path_shape.proofs.FormLemmas.{lookup-thin_fields}
use Rattle.path_shape.proofs.HoldLemmas.{held-left, map_now}
use Rattle.path_shape.proofs.holding.member_value.Goals as goal

pub returns : goal.returns
returns c = λ t loud.
    let found = lookup c.args.name.now (fields_of c.args.list.now) in
    ap (is_held_by_child t) (map_now c.get.result ∙ ap (option_map thin) c.get.ensures)
    ∙ held-left t found loud
    ∙ ap (is_held_by_child t) (sym (lookup-thin_fields c.args.name.now c.args.list.now (subst AreSorted c.list.view_is c.list.invariant)))
