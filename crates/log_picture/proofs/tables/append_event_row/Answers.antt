use Rattle.std.proofs.Common.{append_assoc}
use Rattle.log_picture.proofs.Joining.{then_ok}
use Rattle.log_picture.specs.Lanes.{event_row}
use Rattle.log_picture.proofs.tables.append_event_row.Goals as goal

pub returns : goal.returns
unfolding event_row
returns c = then_ok c.append_asked.result c.append_asked.ensures (λ e. rw (e, c.in_ok-push_moment.ensures, c.in_ok-write.ensures.bytes) (simp append_assoc))
