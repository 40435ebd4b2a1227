use Rattle.markup.proofs.EscapingFacts.{inert-escaped}
use Rattle.markup.proofs.escaping.escaped_law.Goals as goal

pub returns : goal.returns
returns c = inert-escaped
