use Rattle.std.proofs.Common.{append_assoc}
use Rattle.log_picture.proofs.Joining.{then_ok}
use Rattle.log_picture.specs.Page.{sections_text}
use Rattle.log_picture.proofs.page.append_sections.Goals as goal

pub returns : goal.returns
unfolding sections_text
returns c = then_ok c.append_objects.result c.append_objects.ensures (λ e. rw (e, c.in_ok-append_changes.ensures, c.in_ok-append_events.ensures, c.overview_of-overview.ensures) (simp append_assoc))
