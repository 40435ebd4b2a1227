use Rattle.log_picture.specs.Revised.{tick_text}
use Rattle.log_picture.proofs.revised.append_version_mark.Goals as goal

pub returns : goal.returns
unfolding tick_text
returns c = rw (c.in_ok-writeln.ensures.bytes, c.position-x.ensures.value, c.get-revision.ensures.value, c.as_str.ensures.value, c.in_ok-key.ensures.spelling)
