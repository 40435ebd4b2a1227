use Rattle.line_reader.proofs.ReaderFacts.{ends_open_is, ends_closed_is}
use Rattle.line_reader.proofs.reader.ends_open.Goals as goal

pub returns-in-len1-up-clause-open : goal.returns-in-len1-up-clause-open
returns-in-len1-up-clause-open c = λ ends. ends_open_is c.args.bytes.now c.in-len1-up.len_at_least ends

pub returns-in-len1-up-clause-closed : goal.returns-in-len1-up-clause-closed
returns-in-len1-up-clause-closed c = λ ends. ends_closed_is c.args.bytes.now c.in-len1-up.len_at_least ends
