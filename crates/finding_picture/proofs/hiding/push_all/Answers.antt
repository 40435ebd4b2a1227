use Rattle.std.proofs.Common.{append_assoc}
use Rattle.finding_picture.proofs.Joining.{then_ok}
use Rattle.finding_picture.specs.Hiding.{hiding_text}
use Rattle.finding_picture.specs.Texts.{before_hiding, hiding_columns}
use Rattle.finding_picture.proofs.hiding.push_all.Goals as goal

pub returns : goal.returns
unfolding hiding_text before_hiding hiding_columns
returns c = then_ok c.push_hiding_rows.result c.push_hiding_rows.ensures (λ e. rw (e, c.as_slice.ensures.value, c.in_ok-writes.ensures, c.log.ensures.log, c.in_ok-write.ensures.bytes) (simp append_assoc))
