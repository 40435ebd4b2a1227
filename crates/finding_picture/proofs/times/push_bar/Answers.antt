use Rattle.std.proofs.Common.{append_assoc}
use Rattle.finding_picture.specs.Times.{bar_text}
use Rattle.finding_picture.proofs.times.push_bar.Goals as goal

pub returns : goal.returns
unfolding bar_text
returns c = rw (c.in_ok-push_str.ensures.bytes, c.in_ok-push_span.ensures, c.in_ok-write.ensures.bytes, c.position-x.ensures.value, c.bar_width-width.ensures, c.instant-low.ensures, c.instant.ensures, c.in-Some.is) (simp append_assoc)
