use Rattle.std.proofs.Common.{◌∙◌, ap}
use Rattle.json_patch.specs.Joined.{joined}
use Rattle.json_patch.proofs.Joins.{joined_split}
use Rattle.json_patch.proofs.members.split_long.Goals as goal

pub returns : goal.returns
returns c =
    ap joined c.in_ok-insert.ensures.items
    ∙ joined_split c.args.parts.now.items c.args.at c.index_mut-part.result.now c.cut.new.self c.in_ok-behind.behind c.requires c.index_mut-part.ensures.value c.in_ok-behind.ensures
