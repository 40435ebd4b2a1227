use Rattle.std.proofs.Common.{◌≡◌, ◌+◌, ◌-◌, ◌^◌, min, length, Some, refl, sym, ap, subst, ◌∙◌}
use Rattle.base_types.specs.Pointers.{pointed}
use Rattle.json_patch.specs.Edits.{IsEdited}
use Rattle.json_patch.specs.declared.edit.Edit.TheVariants.{Remove}
use Rattle.json_patch.proofs.Counting.{pointed_depth, moved_level, moved_deeper}
use Rattle.json_patch.proofs.applying.move_value.Goals.{then-path-from, else-path-from}
use Rattle.json_patch.proofs.applying.move_value.Goals as goal

pub returns-clause-change : goal.returns-clause-change
returns-clause-change c =
    let v = c.in-Some.value in
    let out : IsEdited Remove (length c.args.from.now) c.args.tree.now c.edit_path.new.tree (Some v) = subst (IsEdited Remove (length c.args.from.now) c.args.tree.now c.edit_path.new.tree) c.in-Some.is c.in_ok-value.ensures.size in
    let there : pointed c.args.from.now c.args.tree.now ≡ Some v = sym c.in_ok-value.ensures.taken.0 ∙ c.in-Some.is in
    let here = pointed_depth c.args.from.now c.args.tree.now v there in
    elim c.if-path-from.branch [
      | then-path-from w ↦ moved_level c.args.tree.now c.edit_path.new.tree c.edit_path-2.new.tree v (length c.args.from.now) (length c.args.path.now) c.in_ok-left.left _ out c.in_ok-left.ensures.size here w.if-path-from.true refl c.values_of.ensures w.depth-is
      | else-path-from w ↦ let deep = w.depth-is ∙ w.saturating_add-depth.ensures ∙ ap (λ n. min (n + length c.args.path.now) (2 ^ 64 - 1)) w.size_of.ensures.depth in
          moved_deeper c.args.tree.now c.edit_path.new.tree c.edit_path-2.new.tree v (length c.args.from.now) (length c.args.path.now) c.in_ok-left.left _ out c.in_ok-left.ensures.size refl c.values_of.ensures deep
    ]
