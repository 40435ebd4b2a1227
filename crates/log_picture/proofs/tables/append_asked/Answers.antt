use Rattle.log_picture.specs.Lanes.{asked_cells}
use Rattle.log_picture.proofs.tables.append_asked.Goals as goal

pub returns : goal.returns
unfolding asked_cells
returns c = rw (c.in_ok-writeln.ensures.bytes, c.kind_words-answered.ensures, c.kind_of.ensures, c.decision_words-decided.ensures, c.as_str.ensures.value, c.as_str-2.ensures.value)
