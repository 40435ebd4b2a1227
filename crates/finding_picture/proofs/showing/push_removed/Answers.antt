use Rattle.finding_picture.specs.Showing.{removed_text}
use Rattle.finding_picture.proofs.showing.push_removed.Goals as goal

pub returns : goal.returns
unfolding removed_text
returns c = rw (c.in_ok-writeln.ensures.bytes, c.as_str.ensures.value)
