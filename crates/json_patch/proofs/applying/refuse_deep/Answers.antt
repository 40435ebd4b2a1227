use Rattle.std.proofs.Common.{◌≡◌, Ok, length, sym, subst}
use Rattle.json_patch.specs.Edits.{edited_at, deep_of, flat_of, RefusedBy}
use Rattle.json_patch.specs.Effects.{and_then}
use Rattle.json_patch.specs.Limits.{within_limits}
use Rattle.json_patch.proofs.Deepening.{deepened, refused_deep, refused_flat}
use Rattle.json_patch.proofs.applying.refuse_deep.Goals.{in-Ok, in-Err}
use Rattle.json_patch.proofs.applying.refuse_deep.Goals as goal

pub returns : goal.returns
returns c =
    let e = c.args.edit in
    let t = c.args.tree.now in
    let path = c.args.path.now in
    let both = deepened path e t in
    elim c.match-edit_path.branch [
      | in-Ok w ↦ subst (RefusedBy (and_then (edited_at path e t) within_limits)) (sym w.result-is)
          (refused_deep (deep_of e (length path)) (edited_at path e t) (edited_at path (flat_of e) t) c.edit_path.new.tree both c.requires
          (subst (λ f. edited_at path f t ≡ Ok c.edit_path.new.tree) c.flat.ensures w.in-Ok.ensures.done))
      | in-Err w ↦ subst (RefusedBy (and_then (edited_at path e t) within_limits)) (sym w.result-is)
          (refused_flat (deep_of e (length path)) (edited_at path e t) (edited_at path (flat_of e) t) w.in-Err.refusal both
          (subst (λ f. RefusedBy (edited_at path f t) w.in-Err.refusal) c.flat.ensures w.in-Err.ensures.refused))
    ]
