use Rattle.std.proofs.Common.{append_assoc}
use Rattle.log_picture.proofs.Stepping.{spread-map}
use Rattle.log_picture.specs.Gone.{removals_table}
use Rattle.log_picture.specs.Texts.{removals_head}
use Rattle.log_picture.proofs.gone.append_listed.Goals as goal

pub returns : goal.returns
unfolding removals_table removals_head
returns c = rw (c.in_ok-push_str-2.ensures.bytes, c.in_ok-append_rows.ensures, c.as_slice.ensures.value, c.in_ok-listed.ensures, c.in_ok-push_str.ensures.bytes, spread-map (λ one. one.now) 200 c.args.removals.now) (simp append_assoc)
