use Rattle.std.proofs.Common.{append_assoc}
use Rattle.finding_picture.proofs.Joining.{then_ok}
use Rattle.finding_picture.specs.Showing.{showing_text}
use Rattle.finding_picture.proofs.showing.push_showing.Goals as goal

pub returns : goal.returns
unfolding showing_text
returns c = then_ok c.push_answer.result c.push_answer.ensures (λ e. rw (e, c.in_ok-push_wanted_uid.ensures, c.in_ok-push_wanted_revision.ensures, c.in-Some.is) (simp append_assoc))
