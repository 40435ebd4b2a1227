use Rattle.finding_picture.specs.Hiding.{name_text}
use Rattle.finding_picture.proofs.hiding.push_name.Goals as goal

pub returns-in_ok-write-in-Prefix : goal.returns-in_ok-write-in-Prefix
unfolding name_text
returns-in_ok-write-in-Prefix c = rw (c.in_ok-write-in-Prefix.ensures.bytes, c.in-Prefix.is, c.as_str-in-Prefix.ensures.value)
