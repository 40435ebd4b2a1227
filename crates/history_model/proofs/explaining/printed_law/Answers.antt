use Rattle.history_model.proofs.Printed.{printed_is}
use Rattle.history_model.proofs.Spelling.{printed_verified}
use Rattle.history_model.proofs.explaining.printed_law.Goals as goal

pub returns-clause-run : goal.returns-clause-run
returns-clause-run c = printed_is

pub returns-clause-verified : goal.returns-clause-verified
returns-clause-verified c = printed_verified
