use Rattle.finding_picture.specs.Objects.{removal_row}
use Rattle.finding_picture.proofs.objects.push_removal.Goals as goal

pub returns : goal.returns
unfolding removal_row
returns c = rw (c.in_ok-writeln.ensures.bytes, c.line_at-line.ensures, c.as_str.ensures.value)
