use Rattle.std.proofs.Common.{append_assoc}
use Rattle.std.proofs.lemmas.List.{length-map, take-map}
use Rattle.finding_picture.proofs.Joining.{then_ok}
use Rattle.finding_picture.specs.Hiding.{hiding_rows}
use Rattle.finding_picture.proofs.hiding.push_hiding_rows.Goals as goal

pub returns : goal.returns
unfolding hiding_rows
returns c = then_ok c.push_rest.result c.push_rest.ensures (λ e. rw (e, c.in_ok-push_str.ensures.bytes, c.in_ok-push_hidden_rows.ensures, c.first_of.ensures, take-map (λ event. event.now) 200 c.args.writes.now, length-map c.args.writes.now (λ event. event.now)) (simp append_assoc))
