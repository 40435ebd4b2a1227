use Rattle.std.proofs.Common.{append_assoc}
use Rattle.log_picture.specs.Lanes.{axis_high_text}
use Rattle.log_picture.proofs.lanes.append_axis_high.Goals as goal

pub returns : goal.returns
unfolding axis_high_text
returns c = rw (c.in_ok-push_str-2.ensures.bytes, c.in_ok-push_moment.ensures, c.in_ok-push_str.ensures.bytes, c.moment_at.ensures) (simp append_assoc)
