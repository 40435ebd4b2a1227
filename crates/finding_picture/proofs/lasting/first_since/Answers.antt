use Rattle.std.proofs.Common.{◌<◌, arith, length, refl, sym, ◌∙◌}
use Rattle.finding_picture.specs.Lasting.{since}
use Rattle.finding_picture.proofs.Counting.{behind_seen, upto_seen}
use Rattle.finding_picture.proofs.lasting.first_since.Goals as goal
use Rattle.finding_picture.proofs.lasting.first_since.Goals.{then-is_upto, else-is_upto}

pub loop-index-init : goal.loop-index-init
unfolding since
loop-index-init c = record { bound = omega arith; rest = refl }

pub loop-index-preserved : goal.loop-index-preserved
loop-index-preserved c =
    let vs = c.args.versions.now in
    let i = c.loop-index.index in
    let x = c.index-versions-index.result in
    let held = c.loop-index.invariant in
    let inside : i < length vs = omega arith in
    elim c.if-is_upto.branch [
      | then-is_upto w ↦ record {
        bound = omega (arith, w.first-is);
        rest = upto_seen c.args.place vs i c.if-is_upto.first x inside c.index-versions-index.is (sym c.is_upto.ensures ∙ w.if-is_upto.true) w.first-is;
      }
      | else-is_upto w ↦ record {
        bound = omega (arith, w.first-is, held.bound);
        rest = behind_seen c.args.place vs i c.loop-index.first c.if-is_upto.first x inside c.index-versions-index.is (sym c.is_upto.ensures ∙ w.if-is_upto.false) w.first-is held.bound held.rest;
      }
    ]
