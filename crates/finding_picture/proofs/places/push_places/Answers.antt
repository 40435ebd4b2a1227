use Rattle.finding_picture.proofs.Joining.{then_ok}
use Rattle.finding_picture.specs.Places.{places_text}
use Rattle.finding_picture.proofs.places.push_places.Goals as goal

pub returns : goal.returns
unfolding places_text
returns c = then_ok c.push_drawing.result c.push_drawing.ensures (λ e. rw (e, c.since-drawn.ensures, c.as_slice.ensures.value, c.in_ok-own.ensures, c.key_on-key.ensures, c.log.ensures.log, c.places_axis-axis.ensures, c.versions-versions.ensures.versions))
