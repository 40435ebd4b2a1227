use Rattle.std.proofs.Common.{append_assoc}
use Rattle.finding_picture.specs.Times.{ends_text}
use Rattle.finding_picture.proofs.times.push_ends.Goals as goal

pub returns : goal.returns
unfolding ends_text
returns c = rw (c.in_ok-push_str-3.ensures.bytes, c.in_ok-push_moment-2.ensures, c.in_ok-push_str-2.ensures.bytes, c.in_ok-push_moment.ensures, c.in_ok-push_str.ensures.bytes, c.moment_at.ensures, c.moment_at-2.ensures) (simp append_assoc)
