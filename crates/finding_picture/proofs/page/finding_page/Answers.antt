use Rattle.std.proofs.Common.{append_assoc}
use Rattle.finding_picture.specs.Page.{page_text}
use Rattle.finding_picture.proofs.page.finding_page.Goals as goal

pub returns : goal.returns
unfolding page_text
returns c = rw (c.in_ok-push_end.ensures, c.in_ok-push_object_sections.ensures, c.in_ok-push_event_sections.ensures, c.in_ok-push_heading.ensures, c.in_ok-push_begin.ensures, c.new-text.ensures.bytes) (simp append_assoc)
