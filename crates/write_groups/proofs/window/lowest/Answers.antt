use Rattle.write_groups.proofs.Placing.{lowest_is}
use Rattle.write_groups.proofs.window.lowest.Goals as goal

pub returns : goal.returns
returns c = λ h t. lowest_is c.args.windows.now h c.args.at.0 c.lowest.result t c.lowest.ensures
