use Rattle.std.proofs.lemmas.Bool.Decides.{same_from_decides}
use Rattle.base_types.specs.Same.{same, same-Decides}
use Rattle.json_patch.proofs.sameness.is_same.Goals as goal

pub returns : goal.returns
returns c = same_from_decides c.equal.result (same c.args.draft.now c.args.tree.now) c.equal.ensures (same-Decides c.args.draft.now c.args.tree.now)
