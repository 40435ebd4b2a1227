use Rattle.std.proofs.Common.{◌∙◌, ap, arith, filter, map}
use Rattle.log_picture.proofs.Pairs.{all_pairs, passed_more}
use Rattle.log_picture.specs.Lanes.{has_mark, pair_of}
use Rattle.log_picture.proofs.lanes.marked_of.Goals as goal

pub loop-number-preserved : goal.loop-number-preserved
loop-number-preserved c =
    passed_more has_mark c.args.events.now c.args.log.now c.loop-number.number c.index-events-number.result c.index-log-number.result
    (map pair_of c.loop-number.marked.items) (map pair_of c.push_marked.new.marked.items)
    (omega (arith, c.loop-number-test.true)) (omega (arith, c.loop-number-test.true))
    c.index-events-number.is c.index-log-number.is c.loop-number.invariant c.in_ok-push_marked.ensures

pub returns : goal.returns
returns c =
    c.loop-number.invariant
    ∙ ap (filter has_mark) (all_pairs c.args.events.now c.args.log.now c.loop-number.number (omega (arith, c.loop-number-test.false, c.loop-number.auto.number-end)))
