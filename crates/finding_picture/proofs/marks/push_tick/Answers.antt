use Rattle.std.proofs.Common.{append_assoc}
use Rattle.finding_picture.specs.Marks.{tick_text}
use Rattle.finding_picture.proofs.marks.push_tick.Goals as goal

pub returns : goal.returns
unfolding tick_text
returns c = rw (c.in_ok-writeln.ensures.bytes, c.in_ok-write.ensures.bytes, c.position-x.ensures.value, c.as_str.ensures.value) (simp append_assoc)
