use Rattle.std.proofs.Common.{append_assoc}
use Rattle.std.proofs.lemmas.List.{length-map}
use Rattle.finding_picture.proofs.Joining.{then_ok}
use Rattle.finding_picture.specs.Places.{drawing_text}
use Rattle.finding_picture.proofs.places.push_drawing.Goals as goal

pub returns : goal.returns
unfolding drawing_text
returns c = then_ok c.push_rest-2.result c.push_rest-2.ensures (λ e. rw (e, c.in_ok-push_rest.ensures, c.in_ok-push_str.ensures.bytes, c.in_ok-push_segments.ensures, c.in_ok-push_marks.ensures, c.in_ok-push_band.ensures, length-map c.args.drawn.now (λ v. v.now)) (simp append_assoc))
