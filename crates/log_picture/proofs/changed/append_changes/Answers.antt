use Rattle.std.proofs.Common.{append_assoc}
use Rattle.log_picture.proofs.Joining.{then_ok}
use Rattle.log_picture.specs.Changes.{changes_text}
use Rattle.log_picture.specs.Texts.{changes_head}
use Rattle.log_picture.proofs.changed.append_changes.Goals as goal

pub returns : goal.returns
unfolding changes_text changes_head
returns c = then_ok c.push_rest.result c.push_rest.ensures (λ e. rw (e, c.in_ok-push_str-2.ensures.bytes, c.in_ok-append_rows.ensures, c.first_of.ensures, c.in_ok-push_str.ensures.bytes) (simp append_assoc))
