use Rattle.std.proofs.Common.{append_assoc}
use Rattle.finding_picture.proofs.Joining.{then_ok}
use Rattle.finding_picture.specs.Heading.{heading_text}
use Rattle.finding_picture.proofs.heading.push_heading.Goals as goal

pub returns : goal.returns
unfolding heading_text
returns c = then_ok c.push_guide.result c.push_guide.ensures (λ e. rw (e, c.in_ok-push_verdict.ensures) (simp append_assoc))
