use Rattle.std.proofs.Common.{append_assoc}
use Rattle.log_picture.specs.Lanes.{form_mark}
use Rattle.log_picture.proofs.lanes.append_form.Goals as goal

pub returns : goal.returns
unfolding form_mark
returns c = rw (c.in_ok-append_title.ensures, c.in_ok-append_shape.ensures, c.style_of.ensures, c.outline_of.ensures, c.lane_of.ensures) (simp append_assoc)
