use Rattle.std.proofs.Common.{append_assoc}
use Rattle.finding_picture.proofs.Joining.{then_ok}
use Rattle.finding_picture.specs.Times.{span_text}
use Rattle.finding_picture.proofs.times.push_span.Goals as goal

pub returns : goal.returns
unfolding span_text
returns c = then_ok c.push_moment-2.result c.push_moment-2.ensures (λ e. rw (e, c.in_ok-push_str.ensures.bytes, c.in_ok-push_moment.ensures) (simp append_assoc))
