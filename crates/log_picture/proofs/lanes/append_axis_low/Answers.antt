use Rattle.std.proofs.Common.{append_assoc}
use Rattle.log_picture.proofs.Joining.{then_ok}
use Rattle.log_picture.specs.Lanes.{axis_low_text}
use Rattle.log_picture.proofs.lanes.append_axis_low.Goals as goal

pub returns : goal.returns
unfolding axis_low_text
returns c = then_ok c.push_moment.result c.push_moment.ensures (λ e. rw (e, c.in_ok-push_str.ensures.bytes, c.moment_at.ensures) (simp append_assoc))
