use Rattle.std.proofs.Common.{append_assoc}
use Rattle.log_picture.proofs.Joining.{then_ok}
use Rattle.log_picture.specs.Revised.{removal_mark}
use Rattle.log_picture.proofs.revised.append_removal_mark.Goals as goal

pub returns : goal.returns
unfolding removal_mark
returns c = then_ok c.append_range.result c.append_range.ensures (λ e. rw (e, c.in_ok-append_bar.ensures, c.line_at-line.ensures, c.as_str.ensures.value, c.in_ok-key.ensures.spelling) (simp append_assoc))
