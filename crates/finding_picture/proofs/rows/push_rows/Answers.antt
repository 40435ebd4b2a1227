use Rattle.std.proofs.Common.{append_assoc}
use Rattle.finding_picture.proofs.Joining.{then_ok}
use Rattle.finding_picture.specs.Rows.{rows_text}
use Rattle.finding_picture.proofs.rows.push_rows.Goals as goal

pub returns : goal.returns
unfolding rows_text
returns c = then_ok c.push_rest.result c.push_rest.ensures (λ e. rw (e, c.in_ok-push_str-2.ensures.bytes, c.in_ok-push_each.ensures, c.in_ok-push_str.ensures.bytes) (simp append_assoc))
