use Rattle.std.proofs.Common.{subst}
use Rattle.std.proofs.lemmas.List.{take_all}
use Rattle.log_context.specs.Makings.{AreMakingsOf}
use Rattle.log_context.proofs.Coding.{makings_next}
use Rattle.log_context.proofs.faults.makings_of.Goals as goal

pub loop-one-preserved : goal.loop-one-preserved
loop-one-preserved c = makings_next c.args.judged.now c.loop-one.one-index _ c.loop-one.makings c.insert.new.self c.loop-one-test.true c.in_ok-_before.ensures.updates c.loop-one.invariant

pub returns : goal.returns
returns c = subst (λ l. AreMakingsOf l c.loop-one.makings) (take_all c.loop-one.one-index c.args.judged.now c.loop-one-test.false) c.loop-one.invariant
