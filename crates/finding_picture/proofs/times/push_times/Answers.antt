use Rattle.std.proofs.Common.{append_assoc}
use Rattle.finding_picture.proofs.Joining.{then_ok}
use Rattle.finding_picture.specs.Times.{times_section, times_text}
use Rattle.finding_picture.proofs.times.push_times.Goals as goal

pub returns : goal.returns
unfolding times_section times_text
returns c = then_ok c.push_rest.result c.push_rest.ensures (λ e. rw (e, c.in_ok-push_ends.ensures, c.in_ok-push_bars.ensures, c.in_ok-push_str.ensures.bytes, c.in_ok-push_span.ensures, c.in_ok-push_band.ensures, c.times_axis-axis.ensures, c.in-Some.is) (simp append_assoc))
