use Rattle.std.proofs.Common.{append_assoc}
use Rattle.std.proofs.lemmas.List.{length-map}
use Rattle.finding_picture.proofs.Joining.{then_ok}
use Rattle.finding_picture.specs.Hiding.{own_rows}
use Rattle.finding_picture.specs.Texts.{before_own, hiding_columns}
use Rattle.finding_picture.proofs.hiding.push_own_rows.Goals as goal

pub returns : goal.returns
unfolding own_rows before_own hiding_columns
returns c = then_ok c.push_rest.result c.push_rest.ensures (λ e. rw (e, c.in_ok-push_hiding_rows.ensures, c.in_ok-write.ensures.bytes, length-map c.args.own.now (λ event. event.now), length-map c.args.all.now (λ event. event.now)) (simp append_assoc))
