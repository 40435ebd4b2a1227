use Rattle.std.proofs.Common.{append_assoc}
use Rattle.finding_picture.proofs.Joining.{then_ok}
use Rattle.finding_picture.specs.Objects.{object_text}
use Rattle.finding_picture.proofs.objects.push_object.Goals as goal

pub returns : goal.returns
unfolding object_text
returns c = then_ok c.push_object_rows.result c.push_object_rows.ensures (λ e. rw (e, c.as_slice.ensures.value, c.as_slice-2.ensures.value, c.in_ok-versions.ensures, c.in_ok-removals.ensures, c.log.ensures.log, c.in_ok-push_object_name.ensures) (simp append_assoc))
