use Rattle.log_intake.proofs.KeepFacts.{both_keep, both_stop, next_behind, next_decoded}
use Rattle.log_intake.proofs.keeping.keep_rest.Goals as goal

pub keep_lines-requires-clause-decoded : goal.keep_lines-requires-clause-decoded
keep_lines-requires-clause-decoded g c = next_decoded _ _ _ _ _ _ _ _ c.keep_and_decode-kept.ensures c.in-Ok.ensures.ok.1

pub keep_lines-requires-clause-next : goal.keep_lines-requires-clause-next
keep_lines-requires-clause-next g c = next_behind _ _ _ _ _ _ _ _ c.keep_and_decode-kept.ensures c.requires.behind c.in-Ok.ensures.ok.0

pub returns-in-Ok : goal.returns-in-Ok
returns-in-Ok g c = both_keep _ _ _ _ _ _ _ _ _ _ c.keep_and_decode-kept.ensures c.in-Ok.ensures.ok.0 c.keep_lines.ensures

pub returns-in-Err : goal.returns-in-Err
returns-in-Err g c = both_stop _ _ _ _ _ _ _ _ _ c.keep_and_decode-kept.ensures c.in-Err.ensures.err
