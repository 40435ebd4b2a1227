use Rattle.std.proofs.Common.{append_assoc}
use Rattle.log_picture.proofs.Stepping.{spread-map}
use Rattle.log_picture.proofs.Joining.{then_ok}
use Rattle.log_picture.specs.Revised.{history_marks}
use Rattle.log_picture.proofs.revised.append_history_marks.Goals as goal

pub returns : goal.returns
unfolding history_marks
returns c = then_ok c.append_unrecorded_marks.result c.append_unrecorded_marks.ensures (λ e. rw (e, c.in_ok-append_removal_marks.ensures, c.in_ok-append_version_marks.ensures, c.as_slice.ensures.value, c.as_slice-2.ensures.value, c.as_slice-3.ensures.value, c.in_ok-versions.ensures, c.in_ok-removals.ensures, c.in_ok-unrecorded_writes.ensures, spread-map (λ one. one.now) 600 c.args.drawn.now.versions.now, spread-map (λ one. one.now) 200 c.args.drawn.now.removals.now) (simp append_assoc))
