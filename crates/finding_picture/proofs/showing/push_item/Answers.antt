use Rattle.finding_picture.specs.Showing.{item_text}
use Rattle.finding_picture.proofs.showing.push_item.Goals as goal

pub returns : goal.returns
unfolding item_text
returns c = rw (c.in_ok-writeln.ensures.bytes, c.get-revision.ensures.value, c.as_str.ensures.value)
