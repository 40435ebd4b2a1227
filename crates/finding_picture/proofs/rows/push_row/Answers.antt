use Rattle.std.proofs.Common.{append_assoc}
use Rattle.finding_picture.proofs.Joining.{then_ok}
use Rattle.finding_picture.specs.Rows.{row_text}
use Rattle.finding_picture.proofs.rows.push_row.Goals as goal

pub returns-in_ok-write-in-Made : goal.returns-in_ok-write-in-Made
unfolding row_text
returns-in_ok-write-in-Made c = then_ok c.push_author.result c.push_author.ensures (λ e. rw (e, c.in_ok-write-in-Made.ensures.bytes, c.in-Made.is) (simp append_assoc))

pub returns-in_ok-write-in-Removed : goal.returns-in_ok-write-in-Removed
unfolding row_text
returns-in_ok-write-in-Removed c = then_ok c.push_author-in-Removed.result c.push_author-in-Removed.ensures (λ e. rw (e, c.in_ok-write-in-Removed.ensures.bytes, c.in-Removed.is) (simp append_assoc))
