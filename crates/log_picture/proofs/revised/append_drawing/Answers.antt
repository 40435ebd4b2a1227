use Rattle.std.proofs.Common.{append_assoc}
use Rattle.log_picture.proofs.Joining.{then_ok}
use Rattle.log_picture.specs.Revised.{history_drawing}
use Rattle.log_picture.specs.Texts.{history_head}
use Rattle.log_picture.proofs.revised.append_drawing.Goals as goal

pub returns : goal.returns
unfolding history_drawing history_head
returns c = then_ok c.append_axis.result c.append_axis.ensures (λ e. rw (e, c.in_ok-append_history_marks.ensures, c.in_ok-push_str.ensures.bytes) (simp append_assoc))
