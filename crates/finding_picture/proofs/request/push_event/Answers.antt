use Rattle.std.proofs.Common.{append_assoc}
use Rattle.finding_picture.proofs.Joining.{then_ok}
use Rattle.finding_picture.specs.Requests.{event_text}
use Rattle.finding_picture.proofs.request.push_event.Goals as goal

pub returns : goal.returns
unfolding event_text
returns c = then_ok c.push_answered.result c.push_answered.ensures (λ e. rw (e, c.in_ok-push_asked.ensures, c.in_ok-push_str-2.ensures.bytes, c.in-Some.is) (simp append_assoc))
