use Rattle.log_picture.specs.Revised.{range_text}
use Rattle.log_picture.proofs.revised.append_range.Goals as goal

pub returns : goal.returns
unfolding range_text
returns c = rw (c.in_ok-writeln.ensures.bytes)
