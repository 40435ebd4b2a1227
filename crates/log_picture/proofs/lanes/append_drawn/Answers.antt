use Rattle.std.proofs.Common.{append_assoc}
use Rattle.std.proofs.lemmas.List.{length-map}
use Rattle.log_picture.proofs.Stepping.{spread-map}
use Rattle.log_picture.specs.Limits.{rest_of, spread}
use Rattle.log_picture.proofs.Joining.{then_ok}
use Rattle.log_picture.specs.Lanes.{drawn_text, pair_of}
use Rattle.log_picture.proofs.lanes.append_drawn.Goals as goal

pub returns : goal.returns
unfolding drawn_text rest_of
returns c = then_ok c.append_events.result c.append_events.ensures (λ e. rw (e, c.in_ok-push_rest.ensures, c.in_ok-append_drawing.ensures, c.as_slice.ensures.value, c.as_slice-2.ensures.value, c.len.ensures, c.in_ok-drawn.drawn.ok.0, c.in_ok-drawn.ensures, spread-map pair_of 500 c.args.marked.now, length-map (spread 500 c.args.marked.now) pair_of, length-map c.args.marked.now pair_of) (simp append_assoc))
