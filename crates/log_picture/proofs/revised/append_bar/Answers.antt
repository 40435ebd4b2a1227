use Rattle.log_picture.specs.Revised.{rect_text}
use Rattle.log_picture.proofs.revised.append_bar.Goals as goal

pub returns : goal.returns
unfolding rect_text
returns c = rw (c.in_ok-write.ensures.bytes, c.position-x.ensures.value, c.bar_width-width.ensures)
