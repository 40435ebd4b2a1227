use Rattle.std.proofs.Common.{append_assoc}
use Rattle.log_picture.proofs.Joining.{then_ok}
use Rattle.log_picture.specs.Counts.{counts_text}
use Rattle.log_picture.specs.Kinds.{kinds}
use Rattle.log_picture.specs.Texts.{counts_head}
use Rattle.log_picture.proofs.counting.append_counts.Goals as goal

pub returns : goal.returns
unfolding counts_text counts_head kinds
returns c = then_ok c.append_totals.result c.append_totals.ensures (λ e. rw (e, c.in_ok-append_kinds.ensures, c.in_ok-push_str.ensures.bytes) (simp append_assoc))
