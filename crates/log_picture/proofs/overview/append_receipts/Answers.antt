use Rattle.std.proofs.Common.{append_assoc}
use Rattle.log_picture.proofs.Joining.{then_ok}
use Rattle.log_picture.specs.Overview.{receipts_text}
use Rattle.log_picture.proofs.overview.append_receipts.Goals as goal

pub returns : goal.returns
unfolding receipts_text
returns c = then_ok c.push_moment-2.result c.push_moment-2.ensures (λ e. rw (e, c.in_ok-push_str.ensures.bytes, c.in_ok-push_moment.ensures, c.moment_at.ensures, c.moment_at-2.ensures) (simp append_assoc))
