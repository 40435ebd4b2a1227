use Rattle.finding_picture.specs.Segments.{segment_text}
use Rattle.finding_picture.proofs.segments.push_segment.Goals as goal

pub returns : goal.returns
unfolding segment_text
returns c = rw (c.in_ok-writeln.ensures.bytes, c.position-x.ensures.value, c.segment_width-width.ensures, c.get-revision.ensures.value, c.as_str.ensures.value)
