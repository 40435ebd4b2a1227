use Rattle.finding_picture.specs.Objects.{object_name}
use Rattle.finding_picture.specs.Texts.{before_object, behind_object}
use Rattle.finding_picture.proofs.objects.push_object_name.Goals as goal

pub returns : goal.returns
unfolding object_name before_object behind_object
returns c = rw (c.in_ok-write.ensures.bytes, c.as_str.ensures.value, c.in_ok-name.ensures.spelling)
