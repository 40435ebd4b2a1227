use Rattle.std.proofs.Common.{append_assoc}
use Rattle.log_picture.proofs.Stepping.{spread-map}
use Rattle.log_picture.specs.Revised.{versions_table}
use Rattle.log_picture.specs.Texts.{versions_head}
use Rattle.log_picture.proofs.tables.append_versions.Goals as goal

pub returns : goal.returns
unfolding versions_table versions_head
returns c = rw (c.in_ok-push_str-2.ensures.bytes, c.in_ok-append_version_rows.ensures, c.as_slice.ensures.value, c.in_ok-listed.ensures, c.in_ok-push_str.ensures.bytes, spread-map (λ one. one.now) 600 c.args.versions.now) (simp append_assoc)
