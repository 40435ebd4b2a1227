use Rattle.std.proofs.Common.{append_assoc}
use Rattle.finding_picture.specs.Times.{times_band}
use Rattle.finding_picture.specs.Texts.{before_times}
use Rattle.finding_picture.proofs.times.push_band.Goals as goal

pub returns : goal.returns
unfolding times_band before_times
returns c = rw (c.in_ok-write.ensures.bytes, c.in_ok-push_span.ensures, c.in_ok-push_str.ensures.bytes, c.position-x.ensures.value, c.bar_width-width.ensures, c.instant-low.ensures, c.instant.ensures) (simp append_assoc)
