use Rattle.std.proofs.Common.{sym, ◌∙◌}
use Rattle.finding_picture.proofs.Counting.{rest_seen}
use Rattle.finding_picture.proofs.lasting.since.Goals as goal

pub returns : goal.returns
returns c = rest_seen c.first_since-first.result c.args.versions.now ∙ sym c.first_since-first.ensures.rest
