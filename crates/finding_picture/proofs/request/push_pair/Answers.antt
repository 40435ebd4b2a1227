use Rattle.finding_picture.specs.Requests.{pair_text}
use Rattle.finding_picture.proofs.request.push_pair.Goals as goal

pub returns : goal.returns
unfolding pair_text
returns c = rw (c.in_ok-writeln.ensures.bytes, c.as_str.ensures.value, c.as_str-2.ensures.value)
