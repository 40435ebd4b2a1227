use Rattle.std.proofs.Common.{append_assoc}
use Rattle.finding_picture.proofs.Joining.{then_ok}
use Rattle.finding_picture.specs.Caches.{caches_section}
use Rattle.finding_picture.specs.Texts.{before_caches, behind_range}
use Rattle.finding_picture.proofs.caches.push_caches_section.Goals as goal

pub returns : goal.returns
unfolding caches_section before_caches behind_range
returns c = then_ok c.push_caches_rows.result c.push_caches_rows.ensures (λ e. rw (e, c.as_slice.ensures.value, c.as_slice-2.ensures.value, c.in_ok-come.ensures, c.in_ok-gone.ensures, c.log.ensures.log, c.in_ok-write.ensures.bytes) (simp append_assoc))
