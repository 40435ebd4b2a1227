use Rattle.std.proofs.Common.{append_assoc}
use Rattle.finding_picture.specs.Caches.{come_row}
use Rattle.finding_picture.proofs.caches.push_come.Goals as goal

pub returns : goal.returns
unfolding come_row
returns c = rw (c.in_ok-push_str.ensures.bytes, c.in_ok-push_maker.ensures, c.in_ok-write.ensures.bytes, c.get-revision.ensures.value, c.as_str.ensures.value, c.in_ok-key.ensures.spelling) (simp append_assoc)
