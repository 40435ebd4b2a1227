use Rattle.std.proofs.Common.{append_assoc}
use Rattle.finding_picture.proofs.Joining.{then_ok}
use Rattle.finding_picture.specs.Requests.{asked_text}
use Rattle.finding_picture.proofs.request.push_asked.Goals as goal

pub returns : goal.returns
unfolding asked_text
returns c = then_ok c.push_impersonated.result c.push_impersonated.ensures (λ e. rw (e, c.in_ok-push_user.ensures, c.in_ok-push_query.ensures, c.as_slice.ensures, c.in_ok-push_entry-2.ensures, c.in_ok-push_entry.ensures) (simp append_assoc))
