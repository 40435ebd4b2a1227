use Rattle.std.proofs.Common.{append_assoc}
use Rattle.std.proofs.lemmas.List.{take-map}
use Rattle.finding_picture.proofs.Joining.{then_ok}
use Rattle.finding_picture.specs.Segments.{segments_text}
use Rattle.finding_picture.proofs.segments.push_segments.Goals as goal

pub returns : goal.returns
unfolding segments_text
returns c = then_ok c.push_boxes.result c.push_boxes.ensures (λ e. rw (e, c.first_of.ensures, c.in_ok-push_str.ensures.bytes, c.in-Some.is, take-map (λ v. v.now) 400 c.args.versions.now) (simp append_assoc))
