use Rattle.std.proofs.Common.{append_assoc}
use Rattle.verdict_text.proofs.outcome.append_unexplained.Goals as goal

pub returns : goal.returns
returns c = simp append_assoc (rw (c.as_str.ensures.value, c.in_ok-name.ensures, c.number-code.ensures) at c.in_ok-writeln.ensures.bytes)
