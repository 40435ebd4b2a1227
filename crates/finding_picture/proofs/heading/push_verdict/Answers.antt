use Rattle.finding_picture.specs.Heading.{verdict_text}
use Rattle.finding_picture.proofs.heading.push_verdict.Goals as goal

pub returns : goal.returns
unfolding verdict_text
returns c = rw (c.in_ok-write.ensures.bytes, c.as_str.ensures.value, c.number-code.ensures)
