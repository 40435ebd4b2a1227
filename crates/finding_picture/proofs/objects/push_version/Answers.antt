use Rattle.std.proofs.Common.{append_assoc}
use Rattle.finding_picture.specs.Objects.{version_row}
use Rattle.finding_picture.proofs.objects.push_version.Goals as goal

pub returns : goal.returns
unfolding version_row
returns c = rw (c.in_ok-push_str.ensures.bytes, c.in_ok-push_maker.ensures, c.in_ok-write.ensures.bytes, c.get-revision.ensures.value, c.as_str.ensures.value) (simp append_assoc)
