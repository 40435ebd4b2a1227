use Rattle.finding_picture.specs.Caches.{gone_row}
use Rattle.finding_picture.proofs.caches.push_gone.Goals as goal

pub returns : goal.returns
unfolding gone_row
returns c = rw (c.in_ok-writeln.ensures.bytes, c.line_at-line.ensures, c.as_str.ensures.value, c.in_ok-key.ensures.spelling)
