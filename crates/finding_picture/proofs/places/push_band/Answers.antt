use Rattle.finding_picture.specs.Places.{band_text}
use Rattle.finding_picture.specs.Texts.{band_and_axis, before_places}
use Rattle.finding_picture.proofs.places.push_band.Goals as goal

pub returns : goal.returns
unfolding band_text before_places band_and_axis
returns c = c.in_ok-writeln.ensures.bytes
