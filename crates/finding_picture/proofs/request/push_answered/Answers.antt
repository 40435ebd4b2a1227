use Rattle.std.proofs.Common.{append_assoc}
use Rattle.finding_picture.proofs.Joining.{then_ok}
use Rattle.finding_picture.specs.Requests.{answered_text}
use Rattle.finding_picture.proofs.request.push_answered.Goals as goal

pub returns : goal.returns
unfolding answered_text
returns c = then_ok c.push_decision.result c.push_decision.ensures (λ e. rw (e, c.in_ok-push_status.ensures, c.in_ok-push_time-2.ensures, c.in_ok-push_time.ensures) (simp append_assoc))
