use Rattle.log_sift.proofs.CutFacts.{cut_closed, cut_open}
use Rattle.log_sift.proofs.cutting.cut_line.Goals as goal

pub returns-in-Some-clause-begins : goal.returns-in-Some-clause-begins
returns-in-Some-clause-begins c =
    let found = c.in-Some.ensures.some in
    cut_closed c.args.log.now c.args.start c.in-Some.end found.0 found.1 found.2 found.3

pub returns-in-None-clause-begins : goal.returns-in-None-clause-begins
returns-in-None-clause-begins c = cut_open c.args.log.now c.args.start c.requires c.in-None.ensures.none
