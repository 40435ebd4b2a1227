use Rattle.std.proofs.Common.{append_assoc}
use Rattle.finding_picture.proofs.Joining.{then_ok}
use Rattle.finding_picture.specs.Page.{object_sections}
use Rattle.finding_picture.proofs.page.push_object_sections.Goals as goal

pub returns : goal.returns
unfolding object_sections
returns c = then_ok c.push_caches.result c.push_caches.ensures (λ e. rw (e, c.in_ok-push_hiding.ensures, c.in_ok-push_object_section.ensures) (simp append_assoc))
