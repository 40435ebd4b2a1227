use Rattle.std.proofs.Common.{append_assoc}
use Rattle.finding_picture.specs.Rows.{event_cells}
use Rattle.finding_picture.proofs.rows.push_cells.Goals as goal

pub returns : goal.returns
unfolding event_cells
returns c = rw (c.in_ok-push_str-3.ensures.bytes, c.in_ok-push_moment-2.ensures, c.in_ok-push_str-2.ensures.bytes, c.in_ok-push_moment.ensures, c.in_ok-write.ensures.bytes, c.as_str.ensures.value, c.in-Some.is) (simp append_assoc)
