use Rattle.finding_picture.proofs.Joining.{then_ok}
use Rattle.finding_picture.specs.Hiding.{hiding_text}
use Rattle.finding_picture.proofs.hiding.push_own.Goals as goal

pub returns : goal.returns
unfolding hiding_text
returns c = then_ok c.push_own_rows.result c.push_own_rows.ensures (λ e. rw (e, c.as_slice.ensures.value, c.as_slice-2.ensures.value, c.in_ok-own.ensures, c.in_ok-all.ensures, c.log-log.ensures.log))
