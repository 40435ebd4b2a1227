use Rattle.log_intake.proofs.BatchFacts.{last_given}
use Rattle.log_intake.proofs.batch.give_last.Goals as goal

pub returns : goal.returns
returns c = last_given c.in_ok-_fits._fits c.args.reader.now c.end.new.self c.give_lines.new.reader _ _ c.requires c.end.ensures.lines c.end.ensures.ended c.in_ok-_fits.ensures.ended c.in_ok-_fits.ensures.gives
