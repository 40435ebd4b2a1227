use Rattle.std.proofs.Common.{append_assoc}
use Rattle.finding_picture.specs.Requests.{request_text}
use Rattle.finding_picture.proofs.request.push_request.Goals as goal

pub returns : goal.returns
unfolding request_text
returns c = rw (c.in_ok-push_str.ensures.bytes, c.in_ok-push_showing.ensures, c.in_ok-push_event.ensures) (simp append_assoc)
