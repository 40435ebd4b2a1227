use Rattle.std.proofs.Common.{append_assoc}
use Rattle.log_picture.proofs.Stepping.{rest_of-map}
use Rattle.log_picture.proofs.Joining.{then_ok}
use Rattle.log_picture.specs.Revised.{left_out_text}
use Rattle.log_picture.proofs.revised.append_left_out.Goals as goal

pub returns : goal.returns
unfolding left_out_text
returns c = then_ok c.append_rest-3.result c.append_rest-3.ensures (λ e. rw (e, c.in_ok-append_rest-2.ensures, c.in_ok-append_rest.ensures, rest_of-map (λ one. one.now) 600 c.args.drawn.now.versions.now, rest_of-map (λ one. one.now) 200 c.args.drawn.now.removals.now) (simp append_assoc))
