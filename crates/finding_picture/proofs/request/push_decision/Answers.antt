use Rattle.finding_picture.specs.Requests.{decision_text}
use Rattle.finding_picture.proofs.request.push_decision.Goals as goal

pub returns : goal.returns
unfolding decision_text
returns c = rw (c.in_ok-writeln.ensures.bytes, c.decision_word-word.ensures)
