use Rattle.std.proofs.Common.{append_assoc}
use Rattle.finding_picture.proofs.Joining.{then_ok}
use Rattle.finding_picture.specs.Requests.{user_text}
use Rattle.finding_picture.proofs.request.push_user.Goals as goal

pub returns : goal.returns
unfolding user_text
returns c = then_ok c.push_groups.result c.push_groups.ensures (λ e. rw (e, c.as_slice.ensures, c.in_ok-push_entry.ensures) (simp append_assoc))
