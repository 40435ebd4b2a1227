use Rattle.std.proofs.Common.{ap, ◌∙◌, None, Some}
use Rattle.std.proofs.lemmas.Option.{slice_get-get_or}
use Rattle.past_building.proofs.Following.{nexts_kept, nexts_put}
use Rattle.past_building.proofs.removals.nexts_of.Goals as goal
use Rattle.past_building.proofs.removals.nexts_of.Goals.{in-Some, in_default}

pub loop-position-preserved : goal.loop-position-preserved
loop-position-preserved c =
    let earlier = c.args.earlier.now in
    let nexts = c.loop-position.nexts.items in
    let position = c.loop-position.position in
    let at = slice_get-get_or earlier position None c.loop-position-test.true in
    elim c.match-earlier-position.branch [
      | in-Some w ↦ rw w.nexts-is (nexts_put earlier nexts position c.loop-position.invariant w.in-Some.before (at ∙ ap Some w.in-Some.is))
      | in_default w ↦ rw w.nexts-is (nexts_kept earlier nexts position c.loop-position.invariant (at ∙ ap Some w.in_default.is))
    ]
