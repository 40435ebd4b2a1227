use Rattle.std.proofs.Common.{append_assoc}
use Rattle.finding_picture.proofs.Joining.{then_ok}
use Rattle.finding_picture.specs.Page.{event_sections}
use Rattle.finding_picture.proofs.page.push_event_sections.Goals as goal

pub returns : goal.returns
unfolding event_sections
returns c = then_ok c.push_rows.result c.push_rows.ensures (λ e. rw (e, c.in_ok-push_times.ensures, c.in_ok-push_places.ensures, c.in_ok-push_request.ensures, c.event_on-event.ensures, c.logged_on.ensures, c.log.ensures.log) (simp append_assoc))
