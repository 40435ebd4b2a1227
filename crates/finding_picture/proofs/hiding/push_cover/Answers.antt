use Rattle.std.proofs.Common.{append_assoc}
use Rattle.finding_picture.specs.Hiding.{cover_row}
use Rattle.finding_picture.proofs.hiding.push_cover.Goals as goal

pub returns : goal.returns
unfolding cover_row
returns c = rw (c.in_ok-push_str-2.ensures.bytes, c.in_ok-push_name.ensures, c.in_ok-push_str.ensures.bytes, c.in_ok-push_namespace.ensures, c.in_ok-write.ensures.bytes, c.as_str.ensures.value, c.as_str-2.ensures.value) (simp append_assoc)
