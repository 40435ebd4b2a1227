use Rattle.std.proofs.Common.{append_assoc}
use Rattle.log_picture.proofs.Joining.{then_ok}
use Rattle.log_picture.specs.Revised.{history_text}
use Rattle.log_picture.proofs.revised.append_history.Goals as goal

pub returns : goal.returns
unfolding history_text
returns c = then_ok c.append_unrecorded.result c.append_unrecorded.ensures (λ e. rw (e, c.in_ok-append_versions.ensures, c.in_ok-append_left_out.ensures, c.in_ok-append_drawing.ensures) (simp append_assoc))
