use Rattle.std.proofs.Common.{append_assoc}
use Rattle.log_picture.proofs.Joining.{then_ok}
use Rattle.log_picture.specs.Overview.{overview_text}
use Rattle.log_picture.proofs.overview.append_overview.Goals as goal

pub returns : goal.returns
unfolding overview_text
returns c = then_ok c.append_last.result c.append_last.ensures (λ e. rw (e, c.in_ok-append_receipts_or_none.ensures, c.in_ok-append_first.ensures) (simp append_assoc))
