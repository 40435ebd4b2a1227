use Rattle.std.proofs.Common.{append_assoc}
use Rattle.log_picture.specs.Revised.{unrecorded_table}
use Rattle.log_picture.specs.Texts.{unrecorded_head}
use Rattle.log_picture.proofs.tables.append_unrecorded.Goals as goal

pub returns : goal.returns
unfolding unrecorded_table unrecorded_head
returns c = rw (c.in_ok-push_str-2.ensures.bytes, c.in_ok-append_unrecorded_rows.ensures, c.as_slice.ensures.value, c.in_ok-listed.ensures, c.in_ok-push_str.ensures.bytes) (simp append_assoc)
