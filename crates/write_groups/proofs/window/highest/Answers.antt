use Rattle.std.proofs.Common.{arith}
use Rattle.write_groups.proofs.Placing.{highest_is}
use Rattle.write_groups.proofs.window.highest.Goals as goal

pub returns : goal.returns
returns c = λ h t. highest_is c.args.windows.now h c.args.at.0 c.highest.result (omega arith) t c.highest.ensures
