use Rattle.log_picture.specs.Revised.{unrecorded_mark}
use Rattle.log_picture.proofs.revised.append_unrecorded_mark.Goals as goal

pub returns : goal.returns
unfolding unrecorded_mark
returns c = rw (c.in_ok-writeln.ensures.bytes, c.position-x.ensures.value)
