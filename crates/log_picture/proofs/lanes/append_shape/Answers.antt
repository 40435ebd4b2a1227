use Rattle.log_picture.specs.Lanes.{shape_text}
use Rattle.log_picture.proofs.lanes.append_shape.Goals as goal

pub returns : goal.returns
unfolding shape_text
returns c = rw (c.in_ok-write.ensures.bytes)
