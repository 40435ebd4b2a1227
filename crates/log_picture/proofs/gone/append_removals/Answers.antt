use Rattle.std.proofs.Common.{append_assoc}
use Rattle.log_picture.proofs.Stepping.{rest_of-map}
use Rattle.log_picture.proofs.Joining.{then_ok}
use Rattle.log_picture.specs.Gone.{removals_text}
use Rattle.log_picture.proofs.gone.append_removals.Goals as goal

pub returns : goal.returns
unfolding removals_text
returns c = then_ok c.append_rest.result c.append_rest.ensures (λ e. rw (e, c.in_ok-append_listed.ensures, rest_of-map (λ one. one.now) 200 c.args.removals.now) (simp append_assoc))
