use Rattle.std.proofs.Common.{append_assoc}
use Rattle.log_picture.proofs.Joining.{then_ok}
use Rattle.log_picture.specs.Page.{events_text}
use Rattle.log_picture.proofs.page.append_events.Goals as goal

pub returns : goal.returns
unfolding events_text
returns c = then_ok c.append_time.result c.append_time.ensures (λ e. rw (e, c.in_ok-append_counts.ensures, c.in_ok-append_overview.ensures, c.time_axis-axis.ensures, c.events.ensures.events, c.log-log.ensures.log) (simp append_assoc))
