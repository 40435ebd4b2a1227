use Rattle.log_picture.specs.Lanes.{title_text}
use Rattle.log_picture.proofs.lanes.append_title.Goals as goal

pub returns : goal.returns
unfolding title_text
returns c = rw (c.in_ok-writeln.ensures.bytes, c.as_str.ensures.value, c.as_str-2.ensures.value)
