use Rattle.std.proofs.Common.{append_assoc}
use Rattle.finding_picture.proofs.Joining.{then_ok}
use Rattle.finding_picture.specs.Rows.{author_text}
use Rattle.finding_picture.proofs.rows.push_author.Goals as goal

pub returns : goal.returns
unfolding author_text
returns c = then_ok c.push_cells.result c.push_cells.ensures (λ e. rw (e, c.event_on.ensures, c.in_ok-write.ensures.bytes, c.as_str.ensures.value) (simp append_assoc))
